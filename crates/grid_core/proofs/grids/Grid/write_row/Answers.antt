-- `Grid::write_row`: replacing one stored row by a line's cells replaces that row of the grid.
use Rattle.grid_core.proofs.Names.{ap, arith, PartialGrid}
use Rattle.grid_core.proofs.StoredRows.{one_written, rows_written}
use Rattle.grid_core.proofs.grids.Grid.write_row.Goals as goal

pub invariant_of-self : goal.invariant_of-self
invariant_of-self g c =
    let wide = ap (λ (g : PartialGrid). g.width) c.self.view_is in
    let tall = ap (λ (g : PartialGrid). g.height) c.self.view_is in
    rw (c.grow_to.ensures.rows, c.grow_to.ensures.capacity, c.from-index.ensures) (
      c.self.invariant.0,
      rows_written _ _ _ _ _ _ c.of.result
          c.self.invariant.0 c.self.invariant.1 (omega arith) (rw (wide, c.requires.width) c.of.ensures.row),
    )

pub returns-clause-row : goal.returns-clause-row
returns-clause-row g c =
    let tall = ap (λ (g : PartialGrid). g.height) c.self.view_is in
    let wide = ap (λ (g : PartialGrid). g.width) c.self.view_is in
    rw (← c.self.view_is, c.from-index.ensures)
    (one_written _ _ _ _ c.args.y c.of.result c.args.line.now c.self.invariant.1.written (omega arith)
    (rw c.from-index.ensures at c.grow_to.ensures.rows) (rw (wide, c.requires.width) c.of.ensures.cells))
