-- What the keyword lines of a refused text explain.
use Rattle.std.specs.Prelude.{ℕ, Bool, false, List, Option, Some, None, is_some, nat_lt, if◌then◌else◌}
use Rattle.std.specs.List.{list_all}
use Rattle.std.specs.Option.{option_map, option_map_or}
use Rattle.puzzle_text.specs.declared.faults.TextFault.{TextFault}
use Rattle.puzzle_text.specs.declared.faults.TextFault.TheVariants.{NoSize, NoSection, Twice}
use Rattle.puzzle_text.specs.declared.forms.TextForm.{TextForm}
use Rattle.puzzle_text.specs.declared.forms.TextForm.TheVariants.{Misspelt, SecondPuzzle}
use Rattle.puzzle_text.specs.declared.near_keywords.NeededKeyword.{NeededKeyword}
use Rattle.puzzle_text.specs.declared.near_keywords.NeededKeyword.TheVariants.{Width, Height, Rows, Columns}
use Rattle.puzzle_text.specs.Keywords.{first_with}
use Rattle.puzzle_text.specs.Lines.{TextLine}
use Rattle.puzzle_text.specs.Mk.{or_else}
use Rattle.puzzle_text.specs.NearKeywords.{near_line, needed_word}
use Rattle.puzzle_text.specs.Non.{single_words}

-- the first line whose keyword is nearly `keyword`, if no line has exactly that
abbrev pub misspelt : List TextLine → NeededKeyword → Option TextForm
misspelt lines keyword =
    if is_some (first_with (needed_word keyword) lines) then None
    else option_map (λ number. Misspelt number keyword) (near_line (needed_word keyword) lines)

-- the first line whose keyword is `word` is above the line with this number
abbrev pub is_above : List TextLine → ℕ → List ℕ → Bool
is_above lines number word =
    option_map_or (λ line. nat_lt line.number number) (first_with word lines) false

-- all keywords that a text has to have are in lines above the one with this number
abbrev pub is_whole_above : List TextLine → ℕ → Bool
is_whole_above lines number = list_all (λ word. is_above lines number word) single_words

-- The form by which keyword lines explain a fault, if they do: of the keywords that are missing the
-- first that is nearly there, or that a line repeats a keyword below all that a text has to have.
abbrev pub form_of_keywords : TextFault → List TextLine → Option TextForm
form_of_keywords NoSize lines = or_else (misspelt lines Width) (misspelt lines Height)
form_of_keywords NoSection lines = or_else (misspelt lines Rows) (misspelt lines Columns)
form_of_keywords (Twice number) lines =
    if is_whole_above lines number then Some (SecondPuzzle number) else None
form_of_keywords fault lines = None
