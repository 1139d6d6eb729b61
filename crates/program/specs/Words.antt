-- The words after the program's name that it can't read.
use Rattle.std.specs.Prelude.{ℕ, List, ◌++◌, codes, string_bytes}
use Rattle.program.specs.Stop.{stop_line}
use Rattle.program.specs.declared.stop.Stop.TheVariants.{NoMemory}
use Rattle.program.specs.declared.words.WordsFault.{WordsFault}
use Rattle.program.specs.declared.words.WordsFault.TheVariants as fault

-- the line that refuses a word that isn't text
abbrev pub odd_line : List ℕ → List ℕ
odd_line word = codes "error: '" ++ word ++ codes "' isn't text in UTF-8\n"

-- the line that is printed if the words can't be read
abbrev pub refused_line : WordsFault → List ℕ
refused_line (fault.NotText word) = odd_line (string_bytes word)
refused_line fault.NoMemory = stop_line NoMemory

-- the exit status then
abbrev pub refused_status : WordsFault → ℕ
refused_status (fault.NotText word) = 2
refused_status fault.NoMemory = 1
