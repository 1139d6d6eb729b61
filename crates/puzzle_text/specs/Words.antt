-- Fault words: how faults are printed.
use Rattle.std.specs.Prelude.{ℕ, List, ◌++◌, codes, decimal, Option, Some, None}
use Rattle.puzzle_text.specs.declared.faults.TextFault.{TextFault}
use Rattle.puzzle_text.specs.declared.faults.TextFault.TheVariants as text
use Rattle.puzzle_text.specs.declared.faults.EntryFault.{EntryFault}
use Rattle.puzzle_text.specs.declared.faults.EntryFault.TheVariants.{UnknownFormat, Text}
use Rattle.puzzle_text.specs.declared.faults.CollectionFault.{CollectionFault}
use Rattle.puzzle_text.specs.declared.faults.CollectionFault.TheVariants as collection
use Rattle.puzzle_text.specs.declared.words.FaultWord.{FaultWord}

-- a fault word with the number of a line after a colon
abbrev pub at_line : List ℕ → ℕ → List ℕ
at_line word number = word ++ codes ":" ++ decimal number

-- a fault word with the number of its line after a colon, if it has one
abbrev pub numbered_word : List ℕ → Option ℕ → List ℕ
numbered_word word None = word
numbered_word word (Some number) = at_line word number

-- the printed text of a fault word
abbrev pub word_text : FaultWord → List ℕ
word_text word = numbered_word word.name.now word.line

-- the printed word of a fault of a puzzle's text
abbrev pub word_of_text : TextFault → List ℕ
word_of_text text.TooLong = codes "TooLong"
word_of_text text.NoSize = codes "NoSize"
word_of_text text.BadSize = codes "BadSize"
word_of_text text.NoSection = codes "NoSection"
word_of_text (text.BadLine number) = at_line (codes "BadLine") number
word_of_text (text.Twice number) = at_line (codes "Twice") number
word_of_text text.BadCount = codes "BadCount"
word_of_text (text.BadNumber number) = at_line (codes "BadNumber") number
word_of_text (text.BadGoal number) = at_line (codes "BadGoal") number
word_of_text text.NoMemory = codes "NoMemory"

-- the printed word of an entry's fault; for a fault of its text, the word of that fault
abbrev pub word_of : EntryFault → List ℕ
word_of UnknownFormat = codes "UnknownFormat"
word_of (Text fault) = word_of_text fault

-- the printed word of a collection's fault
abbrev pub word_of_collection : CollectionFault → List ℕ
word_of_collection collection.TooLong = codes "TooLong"
word_of_collection (collection.Stray number) = at_line (codes "Stray") number
word_of_collection collection.TooMany = codes "TooMany"
word_of_collection collection.NoMemory = codes "NoMemory"
