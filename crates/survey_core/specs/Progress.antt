-- The texts of a survey's progress line.
use Rattle.std.specs.Prelude.{◌≡◌, ℕ, ◌-◌, List, ◌++◌, Option, None, Some, Bool, true, false, codes, decimal}

-- the line while puzzles are graded: CR, by which it overwrites the one before, and how many are
-- begun, of how many files if it is a survey of files. An estimate of the time left may follow
abbrev pub progress_line : ℕ → Option ℕ → List ℕ
progress_line begun None = codes "\r" ++ decimal begun ++ codes " entries begun"
progress_line begun (Some files) =
    codes "\r" ++ decimal begun ++ codes " of " ++ decimal files ++ codes " files begun"

-- what the last line counts: files or entries
abbrev pub counted_word : Option ℕ → List ℕ
counted_word None = codes " entries"
counted_word (Some files) = codes " files"

-- the last line: of how many entries how many were graded and refused
abbrev pub last_line : ℕ → ℕ → Option ℕ → List ℕ
last_line graded entries files =
    codes "\r" ++ decimal graded ++ codes " of " ++ decimal entries ++ counted_word files
    ++ codes " graded, " ++ decimal (entries - graded) ++ codes " refused"
