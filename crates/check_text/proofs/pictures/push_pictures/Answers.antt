-- `push_pictures`: one row more.
use Rattle.std.proofs.Common.{◌+◌, refl, arith}
use Rattle.std.proofs.lemmas.Grind.{common_steps}
use Rattle.check_text.specs.Pictures.{picture_row}
use Rattle.check_text.proofs.RangeLemmas.{flat_map_more}
use Rattle.check_text.proofs.pictures.push_pictures.Goals as goal

pub loop-step-preserved : goal.loop-step-preserved
loop-step-preserved c =
    let start = c.args.window.row in
    let i = c.loop-step.step in
    let more = flat_map_more (picture_row c.args.first.now c.args.second.now c.args.window) start i (start + i) refl in
    grind (arith, common_steps, more)
