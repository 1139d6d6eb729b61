-- Invariant of the loop of `Board::rows_touched_since`: if the entries are of a grid, the rows collected so far are rows of
-- that grid.
use Rattle.solve_core.proofs.Names.{ℕ, ◌<◌, AllByRecursion, Has, IsEntryOf}
use Rattle.solve_core.proofs.grids.boards.Board.rows_touched_since.Given as goal

abbrev pub invariant-loop-entry : goal.invariant-loop-entry
invariant-loop-entry g l = (w h y : ℕ) → AllByRecursion (IsEntryOf w h) l.entry-items → Has (g.W.BitSet.bits l.rows) y → y < h
