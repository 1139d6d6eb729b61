-- How a collection is split from marker line to marker line.
use Rattle.std.specs.Prelude.{◌≡◌, ℕ, Bool, not, ◌||◌, ◌-◌, true, slice_index, List, [], ◌∷◌, ◌++◌, length, ◌==◌}
use Rattle.std.specs.List.{list_all}
use Rattle.puzzle_text.specs.Lines.{raw_lines, is_empty}
use Rattle.puzzle_text.specs.Collections.{Entry, is_marker, body_of, entries_of}

-- a line may start after `bytes`: they are empty or end with a line feed
abbrev pub ends_line : List ℕ → Bool
ends_line bytes = is_empty bytes || slice_index bytes (length bytes - 1) == 10

-- `rest` is the text after a prefix of `bytes` in which no entry begins, so that the prefix belongs
-- to the body that `bytes` begin with
abbrev pub FollowsPlain : List ℕ → List ℕ → Type 0
FollowsPlain bytes rest = (front : List ℕ) × (bytes ≡ front ++ rest)
    × (front ++ body_of (raw_lines rest) ≡ body_of (raw_lines bytes))
    × (entries_of (raw_lines rest) ≡ entries_of (raw_lines bytes))

-- the first line is a marker line, if there is a line
abbrev pub begins_with_marker : List (List ℕ) → Bool
begins_with_marker [] = true
begins_with_marker (raw ∷ raws) = is_marker raw

-- each entry has a name
abbrev pub are_named : List Entry → Bool
are_named entries = list_all (λ entry. not (is_empty entry.name)) entries
