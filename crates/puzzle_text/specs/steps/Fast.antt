-- Lines in their usual form, as the fast path accepts them.
use Rattle.std.specs.Prelude.{◌≡◌, ℕ, ◌+◌, ◌≤◌, ◌⊎◌, true, List, [], ◌∷◌, ◌++◌, length, slice_index, filter, Some, None, Ok}
use Rattle.std.specs.List.{list_all}
use Rattle.std.specs.Char.{is_ascii_digit}
use Rattle.std.specs.Str.Parse.{digits_value}
use Rattle.grid_core.specs.declared.limits.TheConstants.{MAX_SIDE}
use Rattle.puzzle_text.specs.declared.section_split.SectionKind.{SectionKind}
use Rattle.puzzle_text.specs.declared.section_split.SectionKind.TheVariants.{Rows, Columns, Other}
use Rattle.puzzle_text.specs.ClueLines.{clue_of}
use Rattle.puzzle_text.specs.Lines.{TextLine, is_non_blank, lines, numbered_from, raw_lines}
use Rattle.puzzle_text.specs.Non.{Sections, placed, sections_of}
use Rattle.puzzle_text.specs.Keywords.{is_keyword_line}
use Rattle.puzzle_text.specs.Numbers.{pieces}
use Rattle.puzzle_text.specs.Sizes.{two_sizes}

-- `piece` is the digits of `number`, which is from 1 to `MAX_SIDE`
pub record IsNumeral (piece : List ℕ) (number : ℕ) : Type 0 where
  pub digits : list_all is_ascii_digit piece ≡ true
  pub value : number ≡ digits_value 10 piece
  pub positive : 1 ≤ number
  pub within : number ≤ MAX_SIDE

-- `bytes` begin with the digits of `number`, and `rest` follows them
abbrev pub BeginsWithNumber : List ℕ → ℕ → List ℕ → Type 0
BeginsWithNumber bytes number rest =
    (piece : List ℕ) × (bytes ≡ piece ++ rest) × IsNumeral piece number

-- `byte` is a comma or a space
abbrev pub IsCommaOrSpace : ℕ → Type 0
IsCommaOrSpace byte = (byte ≡ 44) ⊎ (byte ≡ 32)

-- `bytes` begin with a line ending, and `rest` follows it
abbrev pub EndsLine : List ℕ → List ℕ → Type 0
EndsLine bytes rest = (bytes ≡ 10 ∷ rest) ⊎ (bytes ≡ 13 ∷ 10 ∷ rest)

-- the first line of `bytes` has this `text`, and `rest` are the bytes of the lines below it
abbrev pub BeginsWith : List ℕ → List ℕ → List ℕ → Type 0
BeginsWith bytes text rest = (number : ℕ)
    → numbered_from number (raw_lines bytes)
    ≡ record { number = number; text = text } ∷ numbered_from (number + 1) (raw_lines rest)

-- `text` is read as `clue`, and begins with a digit
abbrev pub IsClueText : List ℕ → List ℕ → Type 0
IsClueText text clue =
    (clue_of MAX_SIDE text ≡ Some clue) × (is_ascii_digit (slice_index text 0) ≡ true)

-- the first line of `bytes` is read as `clue` and begins with a digit, and `rest` are the bytes of
-- the lines below it
abbrev pub ReadsClue : List ℕ → List ℕ → List ℕ → Type 0
ReadsClue bytes clue rest = (text : List ℕ) × BeginsWith bytes text rest × IsClueText text clue

-- each line is read as the clue at its index and begins with a digit, and there are as many clues
-- as lines
abbrev pub AreClueLines : List TextLine → List (List ℕ) → Type 0
AreClueLines [] [] = Unit {0}
AreClueLines [] (clue ∷ clues) = ⊥
AreClueLines (line ∷ found) [] = ⊥
AreClueLines (line ∷ found) (clue ∷ clues) = IsClueText line.text clue × AreClueLines found clues

-- the first lines of `bytes` are read as `clues` and begin with digits, and `rest` are the bytes of
-- the lines below them
abbrev pub ReadsClues : List ℕ → List (List ℕ) → List ℕ → Type 0
ReadsClues bytes clues rest = (number : ℕ) → (found : List TextLine)
    × (numbered_from number (raw_lines bytes)
    ≡ found ++ numbered_from (number + length clues) (raw_lines rest))
    × AreClueLines found clues

-- the clues of the section that a keyword begins; none if it begins no section
abbrev pub clues_of_kind : SectionKind → List (List ℕ) → List (List ℕ) → List (List ℕ)
clues_of_kind Rows rows columns = rows
clues_of_kind Columns rows columns = columns
clues_of_kind Other rows columns = []

-- the section that a keyword begins had no clues, and the other one is unchanged; if it begins no
-- section, both are
abbrev pub KeepsOthers : SectionKind → List (List ℕ) → List (List ℕ) → List (List ℕ)
    → List (List ℕ) → Type 0
KeepsOthers Rows rows columns new_rows new_columns = (length rows ≡ 0) × (new_columns ≡ columns)
KeepsOthers Columns rows columns new_rows new_columns = (length columns ≡ 0) × (new_rows ≡ rows)
KeepsOthers Other rows columns new_rows new_columns = (new_rows ≡ rows) × (new_columns ≡ columns)

-- the first line of `bytes` is read as `sizes` and begins with a digit, and `rest` are the bytes of
-- the lines below it
abbrev pub ReadsSizes : List ℕ → ℕ × ℕ → List ℕ → Type 0
ReadsSizes bytes sizes rest =
    (text : List ℕ) × BeginsWith bytes text rest × (two_sizes MAX_SIDE (pieces text) ≡ Ok sizes)
    × (is_ascii_digit (slice_index text 0) ≡ true)

-- no line is stray, and the non-blank lines of both sections are read as these clues
pub record HaveClues (sections : Sections) (rows : List (List ℕ))
    (columns : List (List ℕ)) : Type 0 where
  pub stray : sections.stray ≡ None
  pub rows_parsed : AreClueLines (filter is_non_blank sections.rows) rows
  pub columns_parsed : AreClueLines (filter is_non_blank sections.columns) columns

-- `kept` are the keyword lines of a text, and `rows` and `columns` the clues of its sections
pub record HasFastSections (bytes : List ℕ) (kept : List TextLine) (rows : List (List ℕ))
    (columns : List (List ℕ)) : Type 0 where
  pub keywords : kept ≡ filter is_keyword_line (lines bytes)
  pub sections : HaveClues (sections_of (placed (lines bytes))) rows columns
