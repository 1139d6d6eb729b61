-- The loop of `clues_value`: the values of the first clues are there.
use Rattle.std.proofs.Common.{◌≡◌, map, take}
use Rattle.serde_json.specs.View.{view}
use Rattle.survey_json.specs.Puzzles.{clue_data}
use Rattle.survey_json.proofs.puzzles.clues_value.Given as goal

abbrev pub invariant-loop-clue : goal.invariant-loop-clue
invariant-loop-clue l = map view l.lines.items ≡ map clue_data (take l.clue-index l.clues)
