-- The findings on a puzzle of which a limit on guesses cut the search short.
use Rattle.std.specs.Prelude.{ℕ, ◌==◌, List, ◌++◌, if◌then◌else◌}
use Rattle.grid_core.specs.Nonogram.{Nonogram}
use Rattle.survey_text.specs.Goals.{goal_word}
use Rattle.diagnosis.specs.declared.sums.Sums.{Sums}
use Rattle.check_text.specs.Goals.{missed_goal}
use Rattle.check_text.specs.Unsettled.{unsettled}
use Rattle.check_text.specs.Unsolvable.{sums_finding}
use Rattle.check_text.specs.declared.heads.Level.{Level}
use Rattle.check_text.specs.declared.heads.Level.TheVariants.{Error, Warning}

-- that the search wasn't finished, and that the goal doesn't meet the clues, if it doesn't
abbrev pub open_findings : List ℕ → Nonogram → ℕ → List ℕ
open_findings name p limit = unsettled name limit ++ missed_goal name (goal_word p)

-- the findings on `p`, which has these sums: that rows and columns fill different numbers of cells, so
-- that there is no solution, or else that the search wasn't finished
abbrev pub unfinished : List ℕ → Nonogram → Sums → ℕ → List ℕ
unfinished name p sums limit =
    if sums.rows == sums.columns then open_findings name p limit else sums_finding name sums

-- the level of the worst of these findings
abbrev pub unfinished_level : Sums → Level
unfinished_level sums = if sums.rows == sums.columns then Warning else Error
