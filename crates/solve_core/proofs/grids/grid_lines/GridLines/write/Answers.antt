-- `GridLines::write`: each row is as long as the grid is wide.
use Rattle.solve_core.proofs.Names.{◌<◌, ◌∙◌, [], List, ap, arith, get_or, length, sym, Cell, PartialGrid}
use Rattle.solve_core.proofs.GridLineSteps.{lines-long}
use Rattle.solve_core.proofs.grids.grid_lines.GridLines.write.Goals as goal

pub write_rows-requires-clause-widths : goal.write_rows-requires-clause-widths
write_rows-requires-clause-widths g c = λ y l.
    let rows = c.self.inside.rows.items in
    let ly : y < length rows = omega (arith, l, ap length c.deref.ensures.value) in
    ap (λ (rows : List (List Cell)). length (get_or rows y [])) c.deref.ensures.value
    ∙ (lines-long rows c.self.inside.columns.items 0 y c.self.invariant c.self.invariant.size.width_from ly).0
    ∙ ap (λ (g : PartialGrid). g.width) c.self.view_is ∙ sym c.requires.width
