-- `is_row_shown`: the slice has one value for each cell of the row, and shows it exactly if the values of the goal do.
use Rattle.std.proofs.Common.{◌*◌, arith, ap, length, refl, ◌∙◌}
use Rattle.grid_core.proofs.RowLists.{length-row_of}
use Rattle.survey_text.proofs.GoalLemmas.{row_count, row_shown}
use Rattle.survey_text.proofs.goals.is_row_shown.Goals as goal

pub resized-requires : goal.resized-requires
resized-requires c = omega (arith, ap length c.row-row.ensures.row, length-row_of c.args.grid.now c.args.y)

pub is_line_shown-requires : goal.is_line_shown-requires
is_line_shown-requires c =
    row_count c.args.values.now c.args.y _ c.args.grid.now.width c.args.grid.now.height _ _ c.requires.row c.width.ensures.size.width_from
    c.requires.cells (rw (c.from.ensures, c.from-width.ensures, c.width.ensures.width) refl)
    (rw (c.from-width.ensures, c.width.ensures.width) refl)
    (ap length (c.resized.ensures ∙ c.row-row.ensures.row) ∙ length-row_of c.args.grid.now c.args.y)

pub is_line_shown-requires-else-width-le64 : goal.is_line_shown-requires-else-width-le64
is_line_shown-requires-else-width-le64 c =
    row_count c.args.values.now c.args.y _ c.args.grid.now.width c.args.grid.now.height _ _ c.requires.row c.width.ensures.size.width_from
    c.requires.cells (rw (c.from.ensures, c.from-width.ensures, c.width.ensures.width) refl)
    (rw (c.from-width.ensures, c.width.ensures.width) refl)
    (ap length c.row-row.ensures.row ∙ length-row_of c.args.grid.now c.args.y)

pub returns-then-width-le64 : goal.returns-then-width-le64
returns-then-width-le64 c =
    let same =
    row_shown c.args.grid.now c.args.values.now c.args.y _ c.from-width.result _ _ (c.resized.ensures ∙ c.row-row.ensures.row)
    (c.from-width.ensures ∙ c.width.ensures.width) (ap (λ k. k * c.from-width.result) c.from.ensures) refl in
    (λ shown. same.0 (c.is_line_shown.ensures.0 shown), λ shown. c.is_line_shown.ensures.1 (same.1 shown))

pub returns-else-width-le64 : goal.returns-else-width-le64
returns-else-width-le64 c =
    let same =
    row_shown c.args.grid.now c.args.values.now c.args.y _ c.from-width.result _ _ c.row-row.ensures.row
    (c.from-width.ensures ∙ c.width.ensures.width) (ap (λ k. k * c.from-width.result) c.from.ensures) refl in
    (λ shown. same.0 (c.is_line_shown-else-width-le64.ensures.0 shown), λ shown. c.is_line_shown-else-width-le64.ensures.1 (same.1 shown))
