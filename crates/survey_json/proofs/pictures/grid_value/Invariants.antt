-- The loop of `grid_value`: the first `y` rows are there.
use Rattle.std.proofs.Common.{◌≡◌, ℕ, map}
use Rattle.std.specs.List.{range_with_len}
use Rattle.serde_json.specs.Data.{string}
use Rattle.serde_json.specs.View.{view}
use Rattle.survey_json.specs.Pictures.{grid_row}
use Rattle.survey_json.proofs.pictures.grid_value.Given as goal

abbrev pub invariant-loop-y : goal.invariant-loop-y
invariant-loop-y l = map view l.rows.items ≡ map (λ (y : ℕ). string (grid_row l.grid y)) (range_with_len 0 l.y)
