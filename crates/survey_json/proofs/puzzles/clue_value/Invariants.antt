-- The loop of `clue_value`: the values of the first numbers are there.
use Rattle.std.proofs.Common.{◌≡◌, map, take}
use Rattle.serde_json.specs.View.{view}
use Rattle.survey_json.specs.Values.{number_data}
use Rattle.survey_json.proofs.puzzles.clue_value.Given as goal

abbrev pub invariant-loop-number : goal.invariant-loop-number
invariant-loop-number l = map view l.numbers.items ≡ map number_data (take l.number-index l.number-items)
