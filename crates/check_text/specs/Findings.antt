-- A finding about a whole puzzle.
use Rattle.std.specs.Prelude.{ℕ, List, ◌++◌, codes, None}
use Rattle.check_text.specs.Heads.{head}
use Rattle.check_text.specs.declared.heads.Level.{Level}

-- the line of a finding about a whole puzzle: the file's name, the level and the sentence
abbrev pub finding : List ℕ → Level → List ℕ → List ℕ
finding name level sentence = head name None level ++ sentence ++ codes "\n"
