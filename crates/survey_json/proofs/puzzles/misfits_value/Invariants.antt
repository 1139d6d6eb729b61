-- The loop of `misfits_value`: the values of the first clues are there.
use Rattle.std.proofs.Common.{◌≡◌, map, take}
use Rattle.serde_json.specs.View.{view}
use Rattle.survey_json.specs.Puzzles.{misfit_data}
use Rattle.survey_json.proofs.puzzles.misfits_value.Given as goal

abbrev pub invariant-loop-misfit : goal.invariant-loop-misfit
invariant-loop-misfit l = map view l.values.items ≡ map misfit_data (take l.misfit-index l.misfits)
