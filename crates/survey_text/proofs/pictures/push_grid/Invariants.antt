-- The invariant of the loop of `push_grid`: the first `y` rows are appended.
use Rattle.std.proofs.Common.{◌≡◌, ◌++◌}
use Rattle.survey_text.specs.Grids.{rows_text}
use Rattle.survey_text.proofs.pictures.push_grid.Given as goal

abbrev pub invariant-loop-y : goal.invariant-loop-y
invariant-loop-y l = l.text.items ≡ l.initial.text.items ++ rows_text l.grid l.y
