-- `goal_row`: one cell more.
use Rattle.std.proofs.Common.{ℕ, arith, ◌+◌, ◌*◌, false, slice_index_or}
use Rattle.std.proofs.lemmas.Grind.{common_steps}
use Rattle.std.proofs.lemmas.List.FromFn.{map-range_with_len_more}
use Rattle.survey_json.specs.Pictures.{colour_mark}
use Rattle.survey_json.proofs.pictures.goal_row.Goals as goal

pub loop-x-preserved : goal.loop-x-preserved
loop-x-preserved c =
    let i = c.loop-x.x in
    let more = map-range_with_len_more (λ (x : ℕ). colour_mark (slice_index_or c.args.values.now (c.args.y * c.args.width + x) false)) 0 i i (omega arith) in
    grind (arith, common_steps, more)
