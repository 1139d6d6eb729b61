-- Invariant of the loop of `fill_with_unknown`: all lines so far are unknown, and the capacity is what it was.
use Rattle.solve_core.proofs.Names.{◌≡◌, replicate, vec_capacity, Unknown}
use Rattle.solve_core.proofs.grids.grid_lines.fill_with_unknown.Given as goal

abbrev pub invariant-loop : goal.invariant-loop
invariant-loop g l = record {
  items : l.lines.items ≡ replicate l.counter (replicate l.len Unknown);
  capacity : vec_capacity l.lines ≡ vec_capacity l.initial.lines;
}
