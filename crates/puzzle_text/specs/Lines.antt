-- A text's lines: how a text is split, trimmed and numbered.
use Rattle.std.specs.Prelude.{ℕ, ◌+◌, ◌-◌, Bool, not, ◌||◌, List, [], ◌∷◌, length, reverse, ◌==◌, if◌then◌else◌, slice_index, take}
use Rattle.std.specs.List.{onto_first}

-- the lines of a text, each with the line feed that ends it, if there is one
abbrev pub raw_lines : List ℕ → List (List ℕ)
raw_lines [] = []
raw_lines (byte ∷ bytes) =
    let others = raw_lines bytes in
    if byte == 10 then (byte ∷ []) ∷ others else onto_first byte others

-- `byte` is a space or a tab
abbrev pub is_space_or_tab : ℕ → Bool
is_space_or_tab byte = byte == 32 || byte == 9

-- the bytes without the spaces and tabs at their start
abbrev pub trim_start : List ℕ → List ℕ
trim_start [] = []
trim_start (byte ∷ bytes) = if is_space_or_tab byte then trim_start bytes else byte ∷ bytes

-- the bytes without the spaces and tabs at their end
abbrev pub trim_end : List ℕ → List ℕ
trim_end bytes = reverse (trim_start (reverse bytes))

-- the bytes without the spaces and tabs at both ends
abbrev pub trim : List ℕ → List ℕ
trim bytes = trim_end (trim_start bytes)

-- the bytes without the last one, if that is `byte`
abbrev pub strip_last : ℕ → List ℕ → List ℕ
strip_last byte bytes =
    if slice_index bytes (length bytes - 1) == byte then take (length bytes - 1) bytes else bytes

-- a line without the line feed at its end, and without the carriage return before it
abbrev pub without_ending : List ℕ → List ℕ
without_ending raw = strip_last 13 (strip_last 10 raw)

-- a text line: its number in the text, from 1, and its bytes without its line ending and without
-- spaces and tabs at both ends
pub record TextLine : Type 0 where
  pub number : ℕ
  pub text : List ℕ

-- the lines that `raws` stand for, numbered from `number` on
abbrev pub numbered_from : ℕ → List (List ℕ) → List TextLine
numbered_from number [] = []
numbered_from number (raw ∷ raws) =
    record { number = number; text = trim (without_ending raw) } ∷ numbered_from (number + 1) raws

-- the lines of a text, numbered from 1
abbrev pub lines : List ℕ → List TextLine
lines bytes = numbered_from 1 (raw_lines bytes)

-- there are no bytes
abbrev pub is_empty : List ℕ → Bool
is_empty bytes = length bytes == 0

-- `line` is blank: it has no bytes but spaces, tabs and its line ending
abbrev pub is_blank_line : TextLine → Bool
is_blank_line line = is_empty line.text

-- `line` is not blank
abbrev pub is_non_blank : TextLine → Bool
is_non_blank line = not (is_blank_line line)

-- `line` begins with `#`
abbrev pub is_hash : TextLine → Bool
is_hash line = slice_index line.text 0 == 35
