-- The two parts of a fault word: the name of the fault, and the number of the line that it is about.
use Rattle.std.specs.Prelude.{ℕ, List, codes, Option, None}
use Rattle.puzzle_text.specs.Diagnosis.{line_number}
use Rattle.puzzle_text.specs.declared.faults.EntryFault.{EntryFault}
use Rattle.puzzle_text.specs.declared.faults.EntryFault.TheVariants.{UnknownFormat, Text}
use Rattle.puzzle_text.specs.declared.faults.TextFault.{TextFault}
use Rattle.puzzle_text.specs.declared.faults.TextFault.TheVariants.{BadCount, BadGoal, BadLine, BadNumber, BadSize, NoMemory, NoSection, NoSize, TooLong, Twice}

-- the name of a fault of a puzzle's text
abbrev pub text_fault_name : TextFault → List ℕ
text_fault_name TooLong = codes "TooLong"
text_fault_name NoSize = codes "NoSize"
text_fault_name BadSize = codes "BadSize"
text_fault_name NoSection = codes "NoSection"
text_fault_name (BadLine number) = codes "BadLine"
text_fault_name (Twice number) = codes "Twice"
text_fault_name BadCount = codes "BadCount"
text_fault_name (BadNumber number) = codes "BadNumber"
text_fault_name (BadGoal number) = codes "BadGoal"
text_fault_name NoMemory = codes "NoMemory"

-- the name of an entry's fault: its word without the number of a line
abbrev pub fault_name : EntryFault → List ℕ
fault_name UnknownFormat = codes "UnknownFormat"
fault_name (Text fault) = text_fault_name fault

-- the number of the line of the text that a fault names, from 1, if it names one
abbrev pub fault_line : EntryFault → Option ℕ
fault_line UnknownFormat = None
fault_line (Text fault) = line_number fault
