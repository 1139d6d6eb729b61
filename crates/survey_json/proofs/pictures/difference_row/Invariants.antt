-- The loop of `difference_row`: the marks of the first `x` cells are appended.
use Rattle.std.proofs.Common.{◌≡◌, map, string_bytes}
use Rattle.std.specs.List.{range_with_len}
use Rattle.survey_json.specs.Pictures.{difference_mark}
use Rattle.survey_json.proofs.pictures.difference_row.Given as goal

abbrev pub invariant-loop-x : goal.invariant-loop-x
invariant-loop-x l = string_bytes l.row ≡ map (difference_mark l.first l.second l.y) (range_with_len 0 l.x)
