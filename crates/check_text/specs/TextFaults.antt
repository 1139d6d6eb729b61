-- The sentences on the fault for which a text is refused.
use Rattle.std.specs.Prelude.{ℕ, List, [], ◌++◌, codes, Option, Some, None}
use Rattle.puzzle_text.specs.declared.counts.TextCounts.{TextCounts}
use Rattle.puzzle_text.specs.declared.faults.TextFault.{TextFault}
use Rattle.puzzle_text.specs.declared.faults.TextFault.TheVariants.{TooLong, NoSize, BadSize, NoSection, BadLine, Twice, BadCount, BadNumber, BadGoal, NoMemory}
use Rattle.puzzle_text.specs.declared.formats.Format.{Format}
use Rattle.puzzle_text.specs.declared.formats.Format.TheVariants.{Non, Mk, Nin}
use Rattle.check_text.specs.Quoting.{quoted}
use Rattle.check_text.specs.TextCounts.{clue_counts, goal_fault}

-- the bytes of a line between quotation marks and a space, if there is such a line
abbrev pub quote : Option (List ℕ) → List ℕ
quote None = []
quote (Some bytes) = codes "\"" ++ quoted bytes ++ codes "\" "

-- the sentence on a line: the line between quotation marks, and what is wrong with it
abbrev pub line_sentence : Option (List ℕ) → List ℕ → List ℕ
line_sentence line fault = quote line ++ fault

-- the sentence on a text that has no sizes
abbrev pub no_size : Format → List ℕ
no_size Non = codes "there is no line \"width N\" or no line \"height N\""
no_size Mk = codes "no line with two sizes is at the top"
no_size Nin = codes "no line with two sizes is at the top"

-- the sentence on a text that lacks a section
abbrev pub no_section : Format → List ℕ
no_section Non = codes "there is no line \"rows\" or no line \"columns\""
no_section Mk = codes "no line with # is between the clues of the rows and of the columns"
no_section Nin = codes "no line with # is between the clues of the rows and of the columns"

-- the sentence on the fault of a text in a format, with the line that the fault names, and what
-- there is a wrong number of; there is none on `NoMemory`, which is not about the text
abbrev pub fault_sentence : Format → TextFault → Option (List ℕ) → Option TextCounts → List ℕ
fault_sentence format TooLong line counts = codes "the text has more than 1,048,576 bytes"
fault_sentence format NoSize line counts = no_size format
fault_sentence format BadSize line counts = codes "a size is not a number from 1 to 256"
fault_sentence format NoSection line counts = no_section format
fault_sentence format (BadLine number) line counts =
    line_sentence line (codes "belongs to no section (or is a text of more than 65,536 bytes)")
fault_sentence format (Twice number) line counts = line_sentence line (codes "repeats a keyword")
fault_sentence format BadCount line counts = clue_counts counts
fault_sentence format (BadNumber number) line counts =
    line_sentence line (codes "is not a clue (at most 128 numbers from 1 to 256, or 0 alone)")
fault_sentence format (BadGoal number) line counts = goal_fault counts
fault_sentence format NoMemory line counts = []
