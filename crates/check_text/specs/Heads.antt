-- How the line of a finding begins.
use Rattle.std.specs.Prelude.{ℕ, List, [], ◌++◌, map, codes, decimal, Option, Some, None}
use Rattle.survey_text.specs.Entries.{printed_byte}
use Rattle.check_text.specs.declared.heads.Level.{Level}
use Rattle.check_text.specs.declared.heads.Level.TheVariants.{Warning, Error}

-- the word of a level
abbrev pub level_word : Level → List ℕ
level_word Warning = codes "warning"
level_word Error = codes "error"

-- a colon and the number of a line, if there is one
abbrev pub line_mark : Option ℕ → List ℕ
line_mark None = []
line_mark (Some number) = codes ":" ++ decimal number

-- how the line of a finding begins: the file's name, the line of its text if the finding is about
-- one, and the level
abbrev pub head : List ℕ → Option ℕ → Level → List ℕ
head name line level =
    map printed_byte name ++ line_mark line ++ codes ": " ++ level_word level ++ codes ": "
