-- The loop invariant of `grow_to`: one unknown row was appended in each iteration, and the capacity is as it was.
use Rattle.grid_core.proofs.Names.{◌≡◌, ◌++◌, replicate, vec_capacity, unknown_row}
use Rattle.grid_core.proofs.grids.grow_to.Given as goal

abbrev pub invariant-loop : goal.invariant-loop
invariant-loop l = record {
  items : l.rows.items ≡ l.initial.rows.items ++ replicate l.counter unknown_row;
  capacity : vec_capacity l.rows ≡ vec_capacity l.initial.rows;
}
