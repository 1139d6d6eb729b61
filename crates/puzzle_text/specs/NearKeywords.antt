-- Which keywords are nearly those that a `.non` text has to have.
use Rattle.std.specs.Prelude.{ℕ, Bool, false, ◌&&◌, ◌||◌, List, [], ◌∷◌, length, codes, Option, ◌==◌, if◌then◌else◌}
use Rattle.std.specs.List.{find}
use Rattle.std.specs.Str.{bytes_eq}
use Rattle.puzzle_text.specs.declared.near_keywords.NeededKeyword.{NeededKeyword}
use Rattle.puzzle_text.specs.declared.near_keywords.NeededKeyword.TheVariants.{Width, Height, Rows, Columns}
use Rattle.puzzle_text.specs.Keywords.{keyword}
use Rattle.puzzle_text.specs.Lines.{TextLine}
use Rattle.puzzle_text.specs.Non.{number_of_line}

-- a keyword that a text has to have, in lower case
abbrev pub needed_word : NeededKeyword → List ℕ
needed_word Width = codes "width"
needed_word Height = codes "height"
needed_word Rows = codes "rows"
needed_word Columns = codes "columns"

-- the words are equal but for their first two letters, which are exchanged
abbrev pub are_exchanged : List ℕ → List ℕ → Bool
are_exchanged (a ∷ b ∷ after) (c ∷ d ∷ later) = a == d && (b == c && bytes_eq after later)
are_exchanged word other = false

-- `word` becomes `other` if its first letter is changed or dropped, if a letter is added before it,
-- or if it is exchanged with the second letter
abbrev pub begins_with_edit : List ℕ → List ℕ → Bool
begins_with_edit [] other = length other == 1
begins_with_edit (x ∷ after) [] = length (x ∷ after) == 1
begins_with_edit (x ∷ after) (y ∷ later) =
    bytes_eq after later
    || (bytes_eq after (y ∷ later)
    || (bytes_eq (x ∷ after) later || are_exchanged (x ∷ after) (y ∷ later)))

-- `word` becomes `other` if one letter is changed, dropped or added, or if two neighbours are
-- exchanged, after the letters that both begin with
abbrev pub is_near : List ℕ → List ℕ → Bool
is_near (x ∷ after) (y ∷ later) =
    if x == y then is_near after later else begins_with_edit (x ∷ after) (y ∷ later)
is_near word other = begins_with_edit word other

-- the number of the first line whose keyword is nearly `word`
abbrev pub near_line : List ℕ → List TextLine → Option ℕ
near_line word lines = number_of_line (find (λ line. is_near (keyword line) word) lines)
