-- The line of a value, and what it reads back as; the text of a member.
use Rattle.std.specs.Prelude.{◌≡◌, ℕ, List, ◌∷◌, ◌++◌, codes, Some}
use Rattle.json.specs.Print.{quoted}
use Rattle.serde_json.specs.Data.{Data}
use Rattle.serde_json.specs.Read.{read}
use Rattle.serde_json.specs.Written.{compact_text}

-- the text of a value, without spaces, and LF
abbrev pub line_of : Data → List ℕ
line_of d = compact_text d ++ codes "\n"

-- the text of the value reads back as the value
abbrev pub ReadsBack : Data → Type 0
ReadsBack d = read (compact_text d) ≡ Some d

-- the text of a member of an object: its key, a colon and its value
abbrev pub member_text : List ℕ → Data → List ℕ
member_text key value = quoted key ++ 58 ∷ compact_text value
