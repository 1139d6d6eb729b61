-- The names of lines, and their clues.
use Rattle.std.specs.Prelude.{ℕ, ◌+◌, List, [], ◌++◌, codes, decimal, slice_index_or}
use Rattle.grid_core.specs.declared.axes.Axis.{Axis}
use Rattle.grid_core.specs.declared.axes.Axis.TheVariants.{Rows, Columns}
use Rattle.grid_core.specs.Nonogram.{Nonogram, clues_on}
use Rattle.puzzle_text.specs.Written.{clue_text}
use Rattle.check_text.specs.Quoting.{quoted}

-- the word for a line of an axis
abbrev pub axis_word : Axis → List ℕ
axis_word Rows = codes "row"
axis_word Columns = codes "column"

-- the name of line `i` of an axis, counted from 1
abbrev pub line_name : Axis → ℕ → List ℕ
line_name axis i = axis_word axis ++ codes " " ++ decimal (i + 1)

-- the clue of line `i` of an axis as it is quoted: its numbers, with a space between two
abbrev pub line_clue : Nonogram → Axis → ℕ → List ℕ
line_clue p axis i = quoted (clue_text 32 (slice_index_or (clues_on axis p) i []))

-- the clue of line `i` of an axis in parentheses, after a space
abbrev pub clue_in_parentheses : Nonogram → Axis → ℕ → List ℕ
clue_in_parentheses p axis i = codes " (" ++ line_clue p axis i ++ codes ")"

-- the name of line `i` of an axis, and its clue in parentheses
abbrev pub line_with_clue : Nonogram → Axis → ℕ → List ℕ
line_with_clue p axis i = line_name axis i ++ clue_in_parentheses p axis i
