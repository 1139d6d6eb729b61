-- `Grid::row`: a stored row has the cells of the grid's row, and rows below the stored ones are unknown.
use Rattle.grid_core.proofs.Names.{ap, arith, PartialGrid}
use Rattle.grid_core.proofs.StoredRows.{row_unknown, row_written}
use Rattle.grid_core.proofs.grids.Grid.row.Goals as goal

pub returns-in-Some-clause-row : goal.returns-in-Some-clause-row
returns-in-Some-clause-row c =
    let kept = rw (c.from.ensures, c.deref.ensures.value) at c.in-Some.ensures.lookup in
    rw (← c.self.view_is, c.line.ensures)
    (row_written _ _ _ c.args.y c.in-Some.row.now c.self.invariant.1.written (omega arith) kept.1)

pub returns-in-None-clause-row : goal.returns-in-None-clause-row
returns-in-None-clause-row c =
    let from = rw (c.from.ensures, c.deref.ensures.value) at c.in-None.ensures.lookup in
    let tall = ap (λ (g : PartialGrid). g.height) c.self.view_is in
    rw (← c.self.view_is, c.unknown.ensures) (row_unknown _ _ _ c.args.y c.self.invariant.1.written (omega arith) (omega arith))
