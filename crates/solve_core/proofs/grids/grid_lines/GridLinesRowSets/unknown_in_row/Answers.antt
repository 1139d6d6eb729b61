-- `GridLines::unknown_in_row`: the unknown cells of a row are those of the grid in that row.
use Rattle.solve_core.proofs.Names.{◌<◌, ◌∙◌, length}
use Rattle.solve_core.proofs.GridLineSteps.{line_read, unknown-in_grid, unknown-in_row}
use Rattle.solve_core.proofs.grids.grid_lines.GridLinesRowSets.unknown_in_row.Goals as goal

pub returns : goal.returns
returns g c =
    let rows = c.self.inside.rows.items in
    let ly : c.args.y < length rows = rw (← c.self.view_is) at c.requires.0 in
    let row = c.index.ensures ∙ line_read rows c.args.y _ ly in
    rw (← c.self.view_is) (record {
      to = λ x h. unknown-in_grid rows _ c.args.y x c.self.invariant ly (rw row at (c.unknown_cells.ensures.cells.to x h));
      from = λ x u. c.unknown_cells.ensures.cells.from x (rw row (unknown-in_row rows _ c.args.y x c.self.invariant ly u.0 u.1));
    })
