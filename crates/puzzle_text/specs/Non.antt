-- How a text in `.non` is read: its puzzle, or the first check that fails, each over all lines.
-- ---- sections
use Rattle.std.specs.Prelude.{ℕ, ◌*◌, Bool, true, false, not, ◌&&◌, ◌||◌, List, [], ◌∷◌, length, map, filter, codes, Option, Some, None, Result, Ok, Err, option_and_then, nat_lt, ◌==◌, min, take, unwrap_or, if◌then◌else◌}
use Rattle.std.specs.Option.{option_map}
use Rattle.std.specs.List.{enumerate_from, find, last_or}
use Rattle.std.specs.Str.{bytes_eq}
use Rattle.grid_core.specs.Description.{Description}
use Rattle.grid_core.specs.declared.fields.Field.TheVariants.{Catalogue, Title, By, Copyright, License}
use Rattle.grid_core.specs.Nonogram.{Nonogram}
use Rattle.grid_core.specs.declared.limits.TheConstants.{MAX_TEXT_LEN}
use Rattle.puzzle_text.specs.declared.faults.TextFault.{TextFault}
use Rattle.puzzle_text.specs.declared.faults.TextFault.TheVariants.{NoSize, NoSection, BadLine, Twice, BadCount, BadGoal}
use Rattle.puzzle_text.specs.Lines.{TextLine, is_empty, is_non_blank, is_hash}
use Rattle.puzzle_text.specs.Answers.{◌>>=◌, or_fault, each_some}
use Rattle.puzzle_text.specs.ClueLines.{clues_of}
use Rattle.puzzle_text.specs.Sections.{section_lines}
use Rattle.puzzle_text.specs.Sizes.{text_lines, size_of}
use Rattle.puzzle_text.specs.Keywords.{all_fields, field_word, keyword, keyword_argument, is_keyword_line, first_with, second_with, quoted_text}

-- `line` is neither a keyword line nor a comment; it may be blank
abbrev pub is_content : TextLine → Bool
is_content line = is_empty (keyword line) && not (is_hash line)

-- the keyword of the last keyword line among `lines`; empty if there is none
abbrev pub last_keyword : List TextLine → List ℕ
last_keyword lines = unwrap_or (option_map keyword (last_or None (filter is_keyword_line lines))) []

-- the lines that are neither keyword lines nor comments, each beside the keyword of the last
-- keyword line above it
abbrev pub placed : List TextLine → List (List ℕ × TextLine)
placed lines =
    map (λ numbered. (last_keyword (take numbered.0 lines), numbered.1))
    (filter (λ numbered. is_content numbered.1) (enumerate_from 0 lines))

-- the lines of the section whose keyword is `word`
abbrev pub section : List ℕ → List (List ℕ × TextLine) → List TextLine
section word placed_lines =
    map (λ placed_line. placed_line.1)
    (filter (λ placed_line. bytes_eq placed_line.0 word) placed_lines)

-- a line, beside the keyword above it, is stray: it is not blank and belongs to no section
abbrev pub is_outside_sections : List ℕ × TextLine → Bool
is_outside_sections placed_line =
    is_non_blank placed_line.1
    && not (bytes_eq placed_line.0 (codes "rows") || bytes_eq placed_line.0 (codes "columns"))

-- the lines of both sections, and the number of the first stray line
pub record Sections : Type 0 where
  pub rows : List TextLine
  pub columns : List TextLine
  pub stray : Option ℕ

-- the sections of lines that stand beside the keywords above them
abbrev pub sections_of : List (List ℕ × TextLine) → Sections
sections_of placed_lines = record {
  rows = section (codes "rows") placed_lines;
  columns = section (codes "columns") placed_lines;
  stray = option_map (λ placed_line. placed_line.1.number) (find is_outside_sections placed_lines);
}

-- ---- checks

-- the lesser of two numbers, of which a missing one is ignored
abbrev pub least : Option ℕ → Option ℕ → Option ℕ
least None other = other
least (Some m) None = Some m
least (Some m) (Some n) = Some (min m n)

-- the least of `numbers`, ignoring missing ones
abbrev pub least_of : List (Option ℕ) → Option ℕ
least_of [] = None
least_of (number ∷ numbers) = least number (least_of numbers)

-- the fault of the line with this number, if there is one, and otherwise success
abbrev pub refuse_at : (ℕ → TextFault) → Option ℕ → Result (Unit {0}) TextFault
refuse_at fault None = Ok tt
refuse_at fault (Some number) = Err (fault number)

-- the first line whose keyword is `word`, if its text is longer than `MAX_TEXT_LEN` bytes
abbrev pub long_text : List TextLine → List ℕ → Option TextLine
long_text lines word =
    option_and_then
    (λ line. if nat_lt MAX_TEXT_LEN (length (quoted_text line)) then Some line else None)
    (first_with word lines)

-- the keywords of the text fields
abbrev pub text_words : List (List ℕ)
text_words = map field_word all_fields

-- the keywords that may occur only once
abbrev pub single_words : List (List ℕ)
single_words = codes "width" ∷ codes "height" ∷ codes "rows" ∷ codes "columns" ∷ []

-- the number of a line, if there is one
abbrev pub number_of_line : Option TextLine → Option ℕ
number_of_line found = option_map (λ line. line.number) found

-- the number that `BadLine` reports: the least of `stray` and of the numbers of the text fields'
-- first lines whose texts are too long
abbrev pub bad_line : Option ℕ → List TextLine → Option ℕ
bad_line stray lines =
    least stray (least_of (map (λ word. number_of_line (long_text lines word)) text_words))

-- the number of the first line that repeats a keyword which may occur only once
abbrev pub repeated : List TextLine → Option ℕ
repeated lines = least_of (map (λ word. number_of_line (second_with word lines)) single_words)

-- success if there is no stray line, no text is too long, and no keyword is repeated that may occur
-- only once; otherwise the first fault
abbrev pub check_lines : Option ℕ → List TextLine → Result (Unit {0}) TextFault
check_lines stray lines =
    refuse_at BadLine (bad_line stray lines) >>= λ _. refuse_at Twice (repeated lines)

-- ---- parts

-- the width and the height, or the first fault of their lines
abbrev pub sizes_of : ℕ → List TextLine → Result (ℕ × ℕ) TextFault
sizes_of limit lines = do
  width_line ← or_fault NoSize (first_with (codes "width") lines)
  height_line ← or_fault NoSize (first_with (codes "height") lines)
  width ← size_of limit (keyword_argument width_line)
  height ← size_of limit (keyword_argument height_line)
  Ok (width, height)

-- the rows section is before the columns section; `NoSection` if one of them is missing
abbrev pub rows_first : List TextLine → Result Bool TextFault
rows_first lines = do
  rows_line ← or_fault NoSection (first_with (codes "rows") lines)
  columns_line ← or_fault NoSection (first_with (codes "columns") lines)
  Ok (nat_lt rows_line.number columns_line.number)

-- the `count` clue lines of a section, or `BadCount`
abbrev pub clue_lines_of : ℕ → List TextLine → Result (List TextLine) TextFault
clue_lines_of count section = or_fault BadCount (section_lines count section)

-- the row clues and the column clues, or `BadNumber` of the first line that is not a clue in the
-- section that comes first in the text, or else in the other
abbrev pub both_clues : ℕ → Bool → List TextLine → List TextLine
    → Result (List (List ℕ) × List (List ℕ)) TextFault
both_clues limit true rows columns =
    clues_of limit rows >>= λ row_clues.
    clues_of limit columns >>= λ column_clues. Ok (row_clues, column_clues)
both_clues limit false rows columns =
    clues_of limit columns >>= λ column_clues.
    clues_of limit rows >>= λ row_clues. Ok (row_clues, column_clues)

-- the colour that a byte of a goal stands for: `true` for filled
abbrev pub cell_of : ℕ → Option Bool
cell_of byte = if byte == 48 then Some false else (if byte == 49 then Some true else None)

-- the cells of a goal, if `text` is `count` bytes that stand for colours
abbrev pub goal_cells : ℕ → List ℕ → Option (List Bool)
goal_cells count text = if length text == count then each_some cell_of text else None

-- the goal of the `goal` line, if there is such a line; `BadGoal` if its text is not a goal
abbrev pub goal_of : ℕ → Option TextLine → Result (Option (List Bool)) TextFault
goal_of count None = Ok None
goal_of count (Some line) =
    or_fault (BadGoal line.number) (goal_cells count (quoted_text line))
    >>= λ cells. Ok (Some cells)

-- the text of the first line whose keyword is `word`
abbrev pub field_text : List ℕ → List TextLine → Option (List ℕ)
field_text word lines = option_map quoted_text (first_with word lines)

-- the texts of all fields, each that of the field's first line
abbrev pub texts_of : List TextLine → Description
texts_of lines = record {
  catalogue = field_text (field_word Catalogue) lines;
  title = field_text (field_word Title) lines;
  by = field_text (field_word By) lines;
  copyright = field_text (field_word Copyright) lines;
  license = field_text (field_word License) lines;
}

-- ---- the puzzle

-- the sizes, and whether the rows section is first, or the first fault of the keyword lines
abbrev pub outline_of : ℕ → Option ℕ → List TextLine → Result ((ℕ × ℕ) × Bool) TextFault
outline_of limit stray lines = do
  sizes ← sizes_of limit lines
  first ← rows_first lines
  checked ← check_lines stray lines
  Ok (sizes, first)

-- the puzzle of these sizes and clues, with the goal and the texts from the keyword lines, or
-- `BadGoal`
abbrev pub puzzle_of_clues : ℕ × ℕ → List (List ℕ) × List (List ℕ) → List TextLine
    → Result Nonogram TextFault
puzzle_of_clues sizes clues lines = do
  goal ← goal_of (sizes.0 * sizes.1) (first_with (codes "goal") lines)
  Ok (record {
    width = sizes.0;
    height = sizes.1;
    rows = clues.0;
    columns = clues.1;
    texts = texts_of lines;
    goal = goal;
  })

-- the puzzle of these sections and of the keyword lines among `lines`, or the first fault
abbrev pub build_puzzle : ℕ → Sections → List TextLine → Result Nonogram TextFault
build_puzzle limit sections lines = do
  outline ← outline_of limit sections.stray lines
  rows ← clue_lines_of outline.0.1 sections.rows
  columns ← clue_lines_of outline.0.0 sections.columns
  clues ← both_clues limit outline.1 rows columns
  puzzle_of_clues outline.0 clues lines

-- the puzzle of these lines, or their first fault
abbrev pub non_of : ℕ → List TextLine → Result Nonogram TextFault
non_of limit lines = build_puzzle limit (sections_of (placed lines)) lines

-- the puzzle of a text, or its first fault
abbrev pub read_non : ℕ → List ℕ → Result Nonogram TextFault
read_non limit bytes = text_lines bytes >>= non_of limit
