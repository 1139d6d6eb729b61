-- `is_row_off`: one cell more, and a cell that decides.
use Rattle.std.proofs.Common.{◌<◌, arith, sym, get_or, ◌≡◌, true, zero-add}
use Rattle.std.specs.List.{range_with_len}
use Rattle.std.proofs.lemmas.Grind.{common_steps}
use Rattle.std.proofs.lemmas.List.Folds.{list_any_at}
use Rattle.std.proofs.lemmas.List.FromFn.{length-range_with_len, get_or-range_with_len}
use Rattle.diagnosis.specs.Goals.{is_cell_off}
use Rattle.diagnosis.proofs.Ranges.{any-range_more}
use Rattle.diagnosis.proofs.goals.is_row_off.Goals as goal

pub returns-then-not-has_colour : goal.returns-then-not-has_colour
returns-then-not-has_colour c =
    let x = c.loop-x.x in
    let off = is_cell_off c.args.goal.now c.args.grid.now c.args.y in
    let w = c.args.grid.now.width in
    let inside : x < w = omega arith in
    let same : get_or (range_with_len 0 w) x 0 ≡ x = grind (arith, get_or-range_with_len 0 w x 0 inside, zero-add) in
    let here : off x ≡ true = grind (arith, common_steps) in
    let there : off (get_or (range_with_len 0 w) x 0) ≡ true = rw same here in
    sym (list_any_at off (range_with_len 0 w) x 0 (omega (arith, length-range_with_len 0 w)) there)

pub loop-x-preserved : goal.loop-x-preserved
loop-x-preserved c =
    let more = any-range_more (is_cell_off c.args.goal.now c.args.grid.now c.args.y) c.loop-x.x in
    grind (arith, common_steps, more)
