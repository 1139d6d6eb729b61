-- `grid_row`: the bytes of the part are the row, and are UTF-8.
use Rattle.std.proofs.Common.{◌≡◌, ◌+◌, ◌-◌, ◌*◌, take, drop, ◌∙◌, arith, refl}
use Rattle.survey_json.specs.Pictures.{grid_row}
use Rattle.survey_json.proofs.RowLemmas.{row_at, row_is_utf8}
use Rattle.survey_json.proofs.pictures.grid_row.Goals as goal

pub returns : goal.returns
returns c =
    let g = c.args.grid.now in
    let y = c.args.y in
    let first = c.from.result * (c.from-width.result + 1) in
    let start : first ≡ y * (g.width + 1) = rw (c.from.ensures, c.from-width.ensures, c.width.ensures.width) refl in
    let count : first + c.from-width.result - first ≡ g.width = omega (arith, c.from-width.ensures, c.width.ensures.width) in
    let is_row : take (first + c.from-width.result - first) (drop first c.args.text.now) ≡ grid_row g y =
    rw (count, start, c.requires.text) (row_at g y c.requires.row) in
    c.in_ok-from_utf8_lossy.ensures.ok (rw is_row (row_is_utf8 g y)) ∙ is_row
