-- The invariant of the loop of `is_shown`: in the first `y` rows the values are true exactly at the filled cells.
use Rattle.std.proofs.Common.{◌<◌, ℕ}
use Rattle.survey_text.specs.steps.Goals.{IsRowShown}
use Rattle.survey_text.proofs.goals.is_shown.Given as goal

abbrev pub invariant-loop-y : goal.invariant-loop-y
invariant-loop-y l = (k : ℕ) → k < l.y → IsRowShown l.grid l.values k
