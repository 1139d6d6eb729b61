-- Invariant of the loop of `fill_with_none`: all sets so far are empty, and the capacity is what it was.
use Rattle.solve_core.proofs.Names.{◌≡◌, replicate, vec_capacity, no_colours}
use Rattle.solve_core.proofs.records.colour_sets.fill_with_none.Given as goal

abbrev pub invariant-loop : goal.invariant-loop
invariant-loop g l = record {
  items : l.sets.items ≡ replicate l.counter no_colours;
  capacity : vec_capacity l.sets ≡ vec_capacity l.initial.sets;
}
