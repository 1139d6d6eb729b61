-- How a text in `.nin` is read: its puzzle, or the first check that fails, each over all lines.
use Rattle.std.specs.Prelude.{ℕ, ◌+◌, List, Result, Ok}
use Rattle.grid_core.specs.Nonogram.{Nonogram}
use Rattle.puzzle_text.specs.declared.faults.TextFault.{TextFault}
use Rattle.puzzle_text.specs.declared.faults.TextFault.TheVariants.{BadCount}
use Rattle.puzzle_text.specs.Lines.{TextLine}
use Rattle.puzzle_text.specs.Answers.{◌>>=◌, or_fault}
use Rattle.puzzle_text.specs.ClueLines.{clues_of}
use Rattle.puzzle_text.specs.Sections.{section_lines}
use Rattle.puzzle_text.specs.Sizes.{text_lines, size_line}
use Rattle.puzzle_text.specs.Orientation.{orient}

-- The puzzle of these lines, or their first fault. All lines after the size line are one section,
-- which has the clue lines of the rows and then of the columns.
abbrev pub nin_of : ℕ → List TextLine → Result Nonogram TextFault
nin_of limit lines = do
  size ← size_line limit lines
  clue_lines ← or_fault BadCount (section_lines (size.0.0 + size.0.1) size.1)
  clues ← clues_of limit clue_lines
  Ok (orient size.0.0 size.0.1 clues)

-- the puzzle of a text, or its first fault
abbrev pub read_nin : ℕ → List ℕ → Result Nonogram TextFault
read_nin limit bytes = text_lines bytes >>= nin_of limit
