-- `difference_row`: one cell more.
use Rattle.std.proofs.Common.{arith}
use Rattle.std.proofs.lemmas.Grind.{common_steps}
use Rattle.std.proofs.lemmas.List.FromFn.{map-range_with_len_more}
use Rattle.survey_json.specs.Pictures.{difference_mark}
use Rattle.survey_json.proofs.pictures.difference_row.Goals as goal

pub loop-x-preserved : goal.loop-x-preserved
loop-x-preserved c =
    let i = c.loop-x.x in
    let more = map-range_with_len_more (difference_mark c.args.first.now c.args.second.now c.args.y) 0 i i (omega arith) in
    grind (arith, common_steps, more)
