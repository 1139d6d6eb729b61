-- The lines of a puzzle's text, and its size line.
use Rattle.std.specs.Prelude.{ℕ, List, [], ◌∷◌, length, Option, Some, None, Result, Ok, Err, option_and_then, nat_le, nat_lt, if◌then◌else◌}
use Rattle.puzzle_text.specs.declared.faults.TextFault.{TextFault}
use Rattle.puzzle_text.specs.declared.faults.TextFault.TheVariants.{TooLong, NoSize, BadSize}
use Rattle.puzzle_text.specs.declared.limits.TheConstants.{MAX_PUZZLE_LEN}
use Rattle.puzzle_text.specs.Lines.{TextLine, lines, is_non_blank}
use Rattle.puzzle_text.specs.Numbers.{pieces, number_within}
use Rattle.puzzle_text.specs.Answers.{◌>>=◌, or_fault}

-- the lines of a text, or `TooLong`
abbrev pub text_lines : List ℕ → Result (List TextLine) TextFault
text_lines bytes = if nat_lt MAX_PUZZLE_LEN (length bytes) then Err TooLong else Ok (lines bytes)

-- the first line that is not blank, and the lines after it
abbrev pub first_non_blank : List TextLine → Option (TextLine × List TextLine)
first_non_blank [] = None
first_non_blank (line ∷ lines) =
    if is_non_blank line then Some (line, lines) else first_non_blank lines

-- the size that `piece` stands for, from 1 to `limit`, or `BadSize`
abbrev pub size_of : ℕ → List ℕ → Result ℕ TextFault
size_of limit piece =
    or_fault BadSize
    (option_and_then (λ number. if nat_le 1 number then Some number else None)
    (number_within limit piece))

-- the sizes that two pieces stand for, or `BadSize`; `NoSize` if there are fewer or more pieces
abbrev pub two_sizes : ℕ → List (List ℕ) → Result (ℕ × ℕ) TextFault
two_sizes limit (a ∷ b ∷ []) =
    size_of limit a >>= λ first. size_of limit b >>= λ second. Ok (first, second)
two_sizes limit pieces = Err NoSize

-- the two sizes of the size line, which is the first line that is not blank, and the lines after it
abbrev pub size_line : ℕ → List TextLine → Result ((ℕ × ℕ) × List TextLine) TextFault
size_line limit lines = do
  found ← or_fault NoSize (first_non_blank lines)
  sizes ← two_sizes limit (pieces found.0.text)
  Ok (sizes, found.1)
