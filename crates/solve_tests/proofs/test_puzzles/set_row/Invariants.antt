-- The invariant of the loop of `set_row`: the grid keeps its width and its height.
use Rattle.std.proofs.Common.{◌≡◌}
use Rattle.solve_tests.proofs.test_puzzles.set_row.Given as goal

abbrev pub invariant-loop-x : goal.invariant-loop-x
invariant-loop-x l = (l.grid.width ≡ l.fn.grid.width) × (l.grid.height ≡ l.fn.grid.height)
