-- The text of a puzzle in each format.
use Rattle.std.specs.Prelude.{ℕ, Bool, true, false, not, ◌&&◌, List, [], ◌∷◌, ◌++◌, map, codes, decimal, Option, Some, None, ◌==◌}
use Rattle.std.specs.List.{flat_map}
use Rattle.grid_core.specs.Description.{Description, text_of}
use Rattle.grid_core.specs.Nonogram.{Nonogram}
use Rattle.puzzle_text.specs.Keywords.{all_fields, field_word}
use Rattle.puzzle_text.specs.Orientation.{is_admissible, oriented_puzzle}

-- a clue as text, with `separator` before each number but the first; the empty clue is `0`
abbrev pub clue_text : ℕ → List ℕ → List ℕ
clue_text separator [] = codes "0"
clue_text separator (number ∷ numbers) =
    decimal number ++ flat_map (λ other. separator ∷ decimal other) numbers

-- a clue as a line
abbrev pub clue_line : ℕ → List ℕ → List ℕ
clue_line separator clue = clue_text separator clue ++ codes "\n"

-- clues as lines
abbrev pub clue_lines : ℕ → List (List ℕ) → List ℕ
clue_lines separator clues = flat_map (clue_line separator) clues

-- two numbers, with a space between them, as a line
abbrev pub two_numbers : ℕ → ℕ → List ℕ
two_numbers a b = decimal a ++ codes " " ++ decimal b ++ codes "\n"

-- the text of the puzzle `p` in `.mk`: height and width, the rows, a line `#`, the columns
abbrev pub text_mk : Nonogram → List ℕ
text_mk p =
    two_numbers p.height p.width ++ clue_lines 32 p.rows ++ codes "#\n" ++ clue_lines 32 p.columns

-- the text of the puzzle `p` in `.nin`: width and height, the rows, the columns
abbrev pub text_nin : Nonogram → List ℕ
text_nin p = two_numbers p.width p.height ++ clue_lines 32 p.rows ++ clue_lines 32 p.columns

-- the text of the puzzle `p` in `.nin` would be read with the sizes exchanged
abbrev pub is_ambiguous : Nonogram → Bool
is_ambiguous p =
    not (p.width == p.height) && not (is_admissible p)
    && is_admissible (oriented_puzzle p.height p.width (p.rows ++ p.columns))

-- a line with a keyword and a text in double quotes, if there is a text
abbrev pub quoted_line : List ℕ → Option (List ℕ) → List ℕ
quoted_line keyword None = []
quoted_line keyword (Some text) = keyword ++ codes " \"" ++ text ++ codes "\"\n"

-- the byte of a goal's cell: `1` for filled, `0` for blank
abbrev pub goal_byte : Bool → ℕ
goal_byte true = 49
goal_byte false = 48

-- an empty line and the `goal` line, if there is a goal
abbrev pub goal_lines : Option (List Bool) → List ℕ
goal_lines None = []
goal_lines (Some cells) = codes "\n" ++ quoted_line (codes "goal") (Some (map goal_byte cells))

-- the lines of the text fields that have a text
abbrev pub text_fields : Description → List ℕ
text_fields texts =
    flat_map (λ field. quoted_line (field_word field) (text_of texts field)) all_fields

-- the text of the puzzle `p` in `.non`: the texts, the sizes, the rows, the columns, the goal
abbrev pub text_non : Nonogram → List ℕ
text_non p =
    text_fields p.texts
    ++ codes "width " ++ decimal p.width ++ codes "\nheight " ++ decimal p.height
    ++ codes "\n\nrows\n" ++ clue_lines 44 p.rows
    ++ codes "\ncolumns\n" ++ clue_lines 44 p.columns ++ goal_lines p.goal
