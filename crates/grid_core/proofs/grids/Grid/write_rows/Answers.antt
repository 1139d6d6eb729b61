-- `Grid::write_rows`: a grid that stores a row for each line has the cells of the lines.
use Rattle.grid_core.proofs.Names.{ap, PartialGrid}
use Rattle.grid_core.proofs.StoredRows.{all_written}
use Rattle.grid_core.proofs.grids.Grid.write_rows.Goals as goal

pub returns : goal.returns
returns g c =
    let tall = ap (λ (g : PartialGrid). g.height) c.self.view_is in
    let wide = ap (λ (g : PartialGrid). g.width) c.self.view_is in
    rw (tall, wide) (all_written _ _ _ c.args.lines.now c.requires.height c.requires.widths c.write_all.ensures.rows)
