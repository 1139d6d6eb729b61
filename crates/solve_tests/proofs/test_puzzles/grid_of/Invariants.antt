-- The invariant of the loop of `grid_of`: the grid has the width and the height that were asked for.
use Rattle.std.proofs.Common.{◌≡◌}
use Rattle.solve_tests.proofs.test_puzzles.grid_of.Given as goal

abbrev pub invariant-loop-y : goal.invariant-loop-y
invariant-loop-y l = (l.grid.width ≡ l.width) × (l.grid.height ≡ l.height)
