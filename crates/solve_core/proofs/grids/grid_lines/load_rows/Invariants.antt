-- Invariant of the loop of `load_rows`: the rows passed are those of the grid, and the others are unchanged.
use Rattle.solve_core.proofs.Names.{◌≡◌, ◌*◌, ◌<◌, length, row_of}
use Rattle.solve_core.proofs.GridLineSteps.{IsWrittenTo}
use Rattle.solve_core.proofs.grids.grid_lines.load_rows.Given as goal

abbrev pub invariant-loop-y : goal.invariant-loop-y
invariant-loop-y g l = record {
  rows : IsWrittenTo l.fn.rows (row_of l.grid) l.y l.rows;
  count : 0 < l.y → length l.grid.cells ≡ l.grid.width * l.grid.height;
}
