-- The numbers of a text line.
use Rattle.std.specs.Prelude.{ℕ, Bool, not, ◌&&◌, ◌||◌, List, filter, Option, Some, None, option_and_then, nat_le, ◌==◌, if◌then◌else◌}
use Rattle.std.specs.List.{slice_split, list_all}
use Rattle.std.specs.Str.Parse.{digits_value}
use Rattle.std.specs.Char.{is_ascii_digit}
use Rattle.puzzle_text.specs.Lines.{is_empty}

-- `byte` separates pieces: it is a comma, a space or a tab
abbrev pub is_separator : ℕ → Bool
is_separator byte = byte == 44 || (byte == 32 || byte == 9)

-- the pieces of a line: its parts between separators, without the empty ones
abbrev pub pieces : List ℕ → List (List ℕ)
pieces text = filter (λ piece. not (is_empty piece)) (slice_split is_separator text)

-- the number that `piece` is in decimal digits, however long it is
abbrev pub number_of : List ℕ → Option ℕ
number_of piece =
    if not (is_empty piece) && list_all is_ascii_digit piece then Some (digits_value 10 piece)
    else None

-- the number that `piece` is in decimal digits, if it is at most `limit`
abbrev pub number_within : ℕ → List ℕ → Option ℕ
number_within limit piece =
    option_and_then (λ number. if nat_le number limit then Some number else None) (number_of piece)
