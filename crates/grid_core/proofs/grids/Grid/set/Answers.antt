-- `Grid::set`: replacing a cell of a row replaces that cell of the grid.
use Rattle.std.proofs.Common.{arith}
use Rattle.grid_core.proofs.LineLaws.{row-within}
use Rattle.grid_core.proofs.RowLists.{row-set}
use Rattle.grid_core.proofs.grids.Grid.set.Goals as goal

pub returns : goal.returns
returns c =
    let g = c.args.self.now in
    rw (c.write_row.ensures.row, c.set.ensures, c.row-row.ensures.row) (row-set g c.args.x c.args.y c.args.cell c.requires.column
    (omega (arith, row-within g.width g.height c.args.y c.requires.row, c.row-row.ensures.count)))
