-- How a text in `.mk` is read: its puzzle, or the first check that fails, each over all lines.
use Rattle.std.specs.Prelude.{ℕ, ◌+◌, List, ◌++◌, take, drop, Option, Some, None, Result, Ok, option_and_then}
use Rattle.std.specs.List.{position, before_first}
use Rattle.std.specs.Option.{option_map}
use Rattle.grid_core.specs.Nonogram.{Nonogram}
use Rattle.puzzle_text.specs.declared.faults.TextFault.{TextFault}
use Rattle.puzzle_text.specs.declared.faults.TextFault.TheVariants.{NoSection, BadCount}
use Rattle.puzzle_text.specs.Lines.{TextLine, is_hash}
use Rattle.puzzle_text.specs.Answers.{◌>>=◌, or_fault}
use Rattle.puzzle_text.specs.ClueLines.{clues_of}
use Rattle.puzzle_text.specs.Sections.{section_lines}
use Rattle.puzzle_text.specs.Sizes.{text_lines, size_line}
use Rattle.puzzle_text.specs.Orientation.{oriented_puzzle}

-- the lines before the first that begins with `#`, and the lines after it, if there is one
abbrev pub at_hash : List TextLine → Option (List TextLine × List TextLine)
at_hash lines = option_map (λ i. (take i lines, drop (i + 1) lines)) (position is_hash lines)

-- the lines before the first that begins with `#`, or all lines if there is none
abbrev pub before_hash : List TextLine → List TextLine
before_hash lines = before_first is_hash lines

-- the clue lines of both sections for a puzzle of these sizes, if each section has as many
abbrev pub section_lines_of_both : ℕ → ℕ → List TextLine → List TextLine → Option (List TextLine)
section_lines_of_both width height rows columns =
    option_and_then
    (λ clue_lines.
    option_and_then (λ more. Some (clue_lines ++ more)) (section_lines width columns))
    (section_lines height rows)

-- the sizes of a puzzle, and the clue lines of both sections
pub record Layout : Type 0 where
  pub width : ℕ
  pub height : ℕ
  pub clue_lines : List TextLine

-- these sizes with their clue lines, if each section has as many as its size
abbrev pub layout : ℕ → ℕ → List TextLine → List TextLine → Option Layout
layout width height rows columns =
    option_and_then
    (λ clue_lines. Some (record { width = width; height = height; clue_lines = clue_lines }))
    (section_lines_of_both width height rows columns)

-- the first option if it has a value, and otherwise `other`
abbrev pub or_else : {A : Type 0} → Option A → Option A → Option A
or_else None other = other
or_else (Some x) other = Some x

-- the puzzle of these sizes and clue lines, the rows' lines first, or `BadNumber`
abbrev pub puzzle_of : ℕ → ℕ → ℕ → List TextLine → Result Nonogram TextFault
puzzle_of limit width height clue_lines =
    clues_of limit clue_lines >>= λ clues. Ok (oriented_puzzle width height clues)

-- The puzzle of these lines, or their first fault. The first size is the height, unless only with
-- the other order both sections have their clue lines.
abbrev pub mk_of : ℕ → List TextLine → Result Nonogram TextFault
mk_of limit lines = do
  size ← size_line limit lines
  parts ← or_fault NoSection (at_hash size.1)
  fitting ← or_fault BadCount
      (or_else (layout size.0.1 size.0.0 parts.0 (before_hash parts.1))
      (layout size.0.0 size.0.1 parts.0 (before_hash parts.1)))
  puzzle_of limit fitting.width fitting.height fitting.clue_lines

-- the puzzle of a text, or its first fault
abbrev pub read_mk : ℕ → List ℕ → Result Nonogram TextFault
read_mk limit bytes = text_lines bytes >>= mk_of limit
