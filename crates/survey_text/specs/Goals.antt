-- Whether a puzzle's goal meets its clues, as a test and as a word.
use Rattle.std.specs.Prelude.{ℕ, ◌*◌, Bool, ◌&&◌, ◌==◌, List, length, codes, Option, Some, None, false, if◌then◌else◌}
use Rattle.std.specs.List.{list_all}
use Rattle.std.specs.Str.{bytes_eq}
use Rattle.grid_core.specs.Runs.{runs}
use Rattle.grid_core.specs.Nonogram.{GridLine, Nonogram, cells_at, lines_of}
use Rattle.grid_core.specs.declared.puzzles.GoalWord.{GoalWord}
use Rattle.grid_core.specs.declared.puzzles.GoalWord.TheVariants.{Absent, Meets, Misses}

-- whether the runs of the full grid `full` along `line` are its clue
abbrev pub meets_line : List Bool → GridLine → Bool
meets_line full line = bytes_eq (runs (cells_at false full line.indices)) line.clue

-- whether the full grid `full` has the size of `p` and meets the clue of each line
abbrev pub meets_clues : Nonogram → List Bool → Bool
meets_clues p full = length full == p.width * p.height && list_all (meets_line full) (lines_of p)

-- the word for a goal of `p`: absent, or whether it meets the clues
abbrev pub word_of_goal : Nonogram → Option (List Bool) → GoalWord
word_of_goal p None = Absent
word_of_goal p (Some values) = if meets_clues p values then Meets else Misses

-- the word for the goal of `p`
abbrev pub goal_word : Nonogram → GoalWord
goal_word p = word_of_goal p p.goal

-- the printed form of a word for a goal
abbrev pub goal_text : GoalWord → List ℕ
goal_text Absent = codes "absent"
goal_text Meets = codes "meets"
goal_text Misses = codes "misses"
