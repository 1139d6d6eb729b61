-- The sentences on a refused text that has too few or too many of something.
use Rattle.std.specs.Prelude.{ℕ, List, ◌++◌, codes, decimal, Option, Some, None, if◌then◌else◌, ◌==◌}
use Rattle.puzzle_text.specs.declared.counts.Count.{Count}
use Rattle.puzzle_text.specs.declared.counts.TextCounts.{TextCounts}
use Rattle.puzzle_text.specs.declared.counts.TextCounts.TheVariants.{Sections, Together, Goal}

-- how many there are and how many there should be, with `between` in the middle
abbrev pub counted : Count → List ℕ → List ℕ
counted count between = decimal count.found ++ between ++ decimal count.wanted

-- how many clue lines there are for the rows and for the columns
abbrev pub section_counts : Count → Count → List ℕ
section_counts rows columns =
    codes "there are " ++ counted rows (codes " clue lines for ") ++ codes " rows, and "
    ++ counted columns (codes " for ") ++ codes " columns"

-- how many clue lines there are for the rows and the columns together
abbrev pub together_count : Count → List ℕ
together_count count =
    codes "there are " ++ counted count (codes " clue lines for ") ++ codes " rows and columns"

-- the sentence on a text with too few or too many clue lines
abbrev pub clue_counts : Option TextCounts → List ℕ
clue_counts (Some (Sections rows columns)) = section_counts rows columns
clue_counts (Some (Together count)) = together_count count
clue_counts (Some (Goal count)) = codes "the number of clue lines does not fit the size"
clue_counts None = codes "the number of clue lines does not fit the size"

-- the sentence on a goal that has a character that is no cell
abbrev pub odd_goal : List ℕ
odd_goal = codes "the goal has a character other than 0 and 1"

-- the sentence on a goal that is not one `0` or `1` for each cell
abbrev pub goal_fault : Option TextCounts → List ℕ
goal_fault (Some (Goal count)) =
    if count.found == count.wanted then odd_goal
    else codes "the goal has " ++ counted count (codes " characters for ") ++ codes " cells"
goal_fault (Some (Sections rows columns)) = odd_goal
goal_fault (Some (Together count)) = odd_goal
goal_fault None = odd_goal
