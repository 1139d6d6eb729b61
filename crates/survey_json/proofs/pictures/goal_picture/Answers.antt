-- `goal_picture`: one row more.
use Rattle.std.proofs.Common.{ℕ, arith}
use Rattle.std.proofs.lemmas.Grind.{common_steps}
use Rattle.std.proofs.lemmas.List.FromFn.{map-range_with_len_more}
use Rattle.serde_json.specs.Data.{string}
use Rattle.survey_json.specs.Pictures.{goal_row}
use Rattle.survey_json.proofs.pictures.goal_picture.Goals as goal

pub loop-y-preserved : goal.loop-y-preserved
loop-y-preserved c =
    let i = c.loop-y.y in
    let more = map-range_with_len_more (λ (y : ℕ). string (goal_row c.args.puzzle.now.width c.args.values.now y)) 0 i i (omega arith) in
    grind (arith, common_steps, more)
