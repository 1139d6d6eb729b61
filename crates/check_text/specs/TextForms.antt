-- The sentences on the form of a text that explains why it is refused.
use Rattle.std.specs.Prelude.{ℕ, List, ◌++◌, codes}
use Rattle.puzzle_text.specs.declared.forms.TextForm.{TextForm}
use Rattle.puzzle_text.specs.declared.forms.TextForm.TheVariants.{ByteOrderMark, Utf16, LoneReturns, Misspelt, SecondPuzzle}
use Rattle.puzzle_text.specs.declared.near_keywords.NeededKeyword.{NeededKeyword}
use Rattle.puzzle_text.specs.NearKeywords.{needed_word}

-- the number of the line that a form is about: the first line if it is about the whole text
abbrev pub form_line : TextForm → ℕ
form_line ByteOrderMark = 1
form_line Utf16 = 1
form_line LoneReturns = 1
form_line (Misspelt line keyword) = line
form_line (SecondPuzzle line) = line

-- the sentence on a line whose keyword is nearly `keyword`
abbrev pub misspelt_sentence : NeededKeyword → List ℕ
misspelt_sentence keyword =
    codes "the keyword is nearly \"" ++ needed_word keyword ++ codes "\", which is missing"

-- the sentence on a form
abbrev pub form_sentence : TextForm → List ℕ
form_sentence ByteOrderMark =
    codes "the text begins with a byte order mark (save it as UTF-8 without one)"
form_sentence Utf16 = codes "the text is in UTF-16 (save it as UTF-8)"
form_sentence LoneReturns = codes "the lines end in CR alone (end them with LF or CR LF)"
form_sentence (Misspelt line keyword) = misspelt_sentence keyword
form_sentence (SecondPuzzle line) =
    codes "a second puzzle begins here or just above (give each puzzle its own file)"
