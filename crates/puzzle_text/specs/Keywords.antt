-- Keyword lines, their keywords and their texts.
use Rattle.std.specs.Prelude.{ℕ, Bool, not, List, [], ◌∷◌, codes, drop, filter, Option, Some, None, option_and_then, ◌==◌, if◌then◌else◌, slice_get, take_while, reverse, unwrap_or}
use Rattle.std.specs.Option.{option_map}
use Rattle.std.specs.List.{prefix_len}
use Rattle.std.specs.Str.{bytes_eq, str_to_ascii_lowercase}
use Rattle.std.specs.Char.{is_ascii_alphabetic}
use Rattle.grid_core.specs.declared.fields.Field.{Field}
use Rattle.grid_core.specs.declared.fields.Field.TheVariants.{Catalogue, Title, By, Copyright, License}
use Rattle.puzzle_text.specs.Lines.{TextLine, is_empty, trim}

-- the keyword of a text field
abbrev pub field_word : Field → List ℕ
field_word Catalogue = codes "catalogue"
field_word Title = codes "title"
field_word By = codes "by"
field_word Copyright = codes "copyright"
field_word License = codes "license"

-- the text fields, in the order in which they are written
abbrev pub all_fields : List Field
all_fields = Catalogue ∷ Title ∷ By ∷ Copyright ∷ License ∷ []

-- the letters at the start of `line`, in lower case; empty if it is no keyword line
abbrev pub keyword : TextLine → List ℕ
keyword line = str_to_ascii_lowercase (take_while is_ascii_alphabetic line.text)

-- `line` begins with a keyword
abbrev pub is_keyword_line : TextLine → Bool
is_keyword_line line = not (is_empty (keyword line))

-- the argument of a keyword line: the text after its keyword, trimmed
abbrev pub keyword_argument : TextLine → List ℕ
keyword_argument line = trim (drop (prefix_len is_ascii_alphabetic line.text) line.text)

-- the keyword of `line` is `word`
abbrev pub has_keyword : List ℕ → TextLine → Bool
has_keyword word line = bytes_eq (keyword line) word

-- those of `lines` whose keyword is `word`
abbrev pub with_keyword : List ℕ → List TextLine → List TextLine
with_keyword word lines = filter (has_keyword word) lines

-- the first of `lines` whose keyword is `word`
abbrev pub first_with : List ℕ → List TextLine → Option TextLine
first_with word lines = slice_get (with_keyword word lines) 0

-- the second of `lines` whose keyword is `word`
abbrev pub second_with : List ℕ → List TextLine → Option TextLine
second_with word lines = slice_get (with_keyword word lines) 1

-- the bytes after the first double quote, if there is one
abbrev pub after_quote : List ℕ → Option (List ℕ)
after_quote [] = None
after_quote (byte ∷ bytes) = if byte == 34 then Some bytes else after_quote bytes

-- the bytes before the last double quote, if there is one
abbrev pub before_quote : List ℕ → Option (List ℕ)
before_quote bytes = option_map reverse (after_quote (reverse bytes))

-- the bytes between the first and the last double quote, or all of `bytes` if there are fewer than
-- two
abbrev pub quoted : List ℕ → List ℕ
quoted bytes = unwrap_or (option_and_then before_quote (after_quote bytes)) bytes

-- the text of a field's line: its argument, without double quotes around it
abbrev pub quoted_text : TextLine → List ℕ
quoted_text line = quoted (keyword_argument line)
