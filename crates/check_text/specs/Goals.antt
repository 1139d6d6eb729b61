-- The findings on a puzzle's goal.
use Rattle.std.specs.Prelude.{ℕ, ◌+◌, List, [], ◌∷◌, ◌++◌, length, codes, decimal, if◌then◌else◌, ◌==◌}
use Rattle.std.specs.List.{flat_map}
use Rattle.grid_core.specs.declared.puzzles.GoalWord.{GoalWord}
use Rattle.grid_core.specs.declared.puzzles.GoalWord.TheVariants.{Absent, Meets, Misses}
use Rattle.check_text.specs.Findings.{finding}
use Rattle.check_text.specs.Quoting.{quoted}
use Rattle.check_text.specs.declared.heads.Level.TheVariants.{Warning}

-- the numbers of rows, counted from 1, with a comma between two
abbrev pub row_numbers : List ℕ → List ℕ
row_numbers [] = []
row_numbers (row ∷ rows) =
    decimal (row + 1) ++ flat_map (λ other. codes ", " ++ decimal (other + 1)) rows

-- the word for one row or for several
abbrev pub rows_word : List ℕ → List ℕ
rows_word rows = if length rows == 1 then codes "row " else codes "rows "

-- that the goal differs from the only solution in these rows
abbrev pub goal_difference_text : List ℕ → List ℕ
goal_difference_text rows =
    codes "the goal differs from the only solution in " ++ rows_word rows
    ++ quoted (row_numbers rows)

-- the finding that the goal differs from the only solution in these rows; nothing if it differs in
-- none
abbrev pub goal_difference : List ℕ → List ℕ → List ℕ
goal_difference name rows =
    if length rows == 0 then [] else finding name Warning (goal_difference_text rows)

-- the finding that the goal doesn't meet the clues; nothing if it does, or if there is none
abbrev pub missed_goal : List ℕ → GoalWord → List ℕ
missed_goal name Absent = []
missed_goal name Meets = []
missed_goal name Misses = finding name Warning (codes "the goal does not meet the clues")
