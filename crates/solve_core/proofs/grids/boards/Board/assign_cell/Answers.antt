-- `Board::assign_cell`: assigning a cell is assigning its row with one changed cell.
use Rattle.solve_core.proofs.Names.{◌∙◌, ap, arith, cells_along, IsWhole, Rows, TrailedGrid}
use Rattle.solve_core.proofs.AssignedLines.{row_assigns, row_unknown, row_wide, row_written}
use Rattle.solve_core.proofs.grids.boards.Board.assign_cell.Goals as goal

pub assign-requires-clause-i : goal.assign-requires-clause-i
assign-requires-clause-i g c =
    let whole : IsWhole c.args.self.now = rw (← c.self.view_is) c.line.ensures.whole in
    let wide = row_wide c.args.self.now _ _ _ _ whole c.requires.column c.requires.row c.requires.unknown c.requires.known
    (c.copy-row.ensures ∙ c.line.ensures.cells ∙ ap (λ (t : TrailedGrid). cells_along t Rows c.args.y) c.self.view_is) in
    omega (arith, c.requires.column, wide)

pub assign-requires-clause-unknown : goal.assign-requires-clause-unknown
assign-requires-clause-unknown g c =
    let whole : IsWhole c.args.self.now = rw (← c.self.view_is) c.line.ensures.whole in
    row_unknown c.args.self.now _ _ _ _ whole c.requires.column c.requires.row c.requires.unknown c.requires.known
    (c.copy-row.ensures ∙ c.line.ensures.cells ∙ ap (λ (t : TrailedGrid). cells_along t Rows c.args.y) c.self.view_is)

pub assign_line-requires : goal.assign_line-requires
assign_line-requires g c =
    let whole : IsWhole c.args.self.now = rw (← c.self.view_is) c.line.ensures.whole in
    rw c.assign.ensures (row_assigns c.args.self.now _ _ _ _ whole c.requires.column c.requires.row c.requires.unknown c.requires.known
    (c.copy-row.ensures ∙ c.line.ensures.cells ∙ ap (λ (t : TrailedGrid). cells_along t Rows c.args.y) c.self.view_is)
    _ _ c.empty.ensures c.with_bit.ensures)

pub returns-clause-cells : goal.returns-clause-cells
returns-clause-cells g c =
    let whole : IsWhole c.args.self.now = rw (← c.self.view_is) c.line.ensures.whole in
    c.assign_line.ensures.cells
    ∙ rw c.assign.ensures (row_written c.args.self.now _ _ _ _ whole c.requires.column c.requires.row c.requires.unknown c.requires.known
    (c.copy-row.ensures ∙ c.line.ensures.cells ∙ ap (λ (t : TrailedGrid). cells_along t Rows c.args.y) c.self.view_is))
