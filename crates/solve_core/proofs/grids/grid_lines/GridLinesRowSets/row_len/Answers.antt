-- `GridLines::row_len`: the first row is as long as the grid is wide.
use Rattle.solve_core.proofs.Names.{◌≡◌, ◌∙◌, length, ap}
use Rattle.solve_core.proofs.GridLineSteps.{line_read, lines-long}
use Rattle.solve_core.proofs.grids.grid_lines.GridLinesRowSets.row_len.Goals as goal

pub returns : goal.returns
returns g c =
    let a = c.self.invariant in
    let rows = c.self.inside.rows.items in
    let long : length c.index.result.now ≡ length c.self.inside.columns.items =
    ap length (c.index.ensures ∙ line_read rows 0 c.index.result.now a.size.height_from)
    ∙ (lines-long rows _ 0 0 a a.size.width_from a.size.height_from).0 in
    rw (← c.self.view_is) (record {
      len = c.len.ensures.len ∙ long;
      fits = rw long at c.len.ensures.fits;
      size = a.size;
      count = a.count;
    })
