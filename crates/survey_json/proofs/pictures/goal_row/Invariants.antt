-- The loop of `goal_row`: the marks of the first `x` cells are appended.
use Rattle.std.proofs.Common.{◌≡◌, ℕ, map, string_bytes, ◌+◌, ◌*◌, false, slice_index_or}
use Rattle.std.specs.List.{range_with_len}
use Rattle.survey_json.specs.Pictures.{colour_mark}
use Rattle.survey_json.proofs.pictures.goal_row.Given as goal

abbrev pub invariant-loop-x : goal.invariant-loop-x
invariant-loop-x l = string_bytes l.row ≡ map (λ (x : ℕ). colour_mark (slice_index_or l.values (l.y * l.width + x) false)) (range_with_len 0 l.x)
