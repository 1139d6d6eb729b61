-- Numbers in groups of three digits, and counts of things.
use Rattle.std.specs.Prelude.{ℕ, ◌-◌, ◌%◌, List, [], ◌∷◌, ◌++◌, length, codes, decimal, if◌then◌else◌, nat_lt, ◌==◌, ◌&&◌, slice_index}
use Rattle.std.specs.List.{flat_map, range_with_len}

-- the digit at index `k`, after a comma if digits stand before it and the number of digits from it
-- on is a multiple of three
abbrev pub grouped_digit : List ℕ → ℕ → List ℕ
grouped_digit digits k =
    if nat_lt 0 k && ((length digits - k) % 3 == 0) then codes "," ++ slice_index digits k ∷ []
    else slice_index digits k ∷ []

-- the digits of a number, with a comma between groups of three
abbrev pub grouped_digits : List ℕ → List ℕ
grouped_digits digits = flat_map (grouped_digit digits) (range_with_len 0 (length digits))

-- a number with a comma between groups of three digits
abbrev pub grouped : ℕ → List ℕ
grouped number = grouped_digits (decimal number)

-- the word behind a number: `one` behind 1, `several` behind another
abbrev pub noun_of : ℕ → List ℕ → List ℕ → List ℕ
noun_of number one several = if number == 1 then one else several

-- a number of cells
abbrev pub cell_count : ℕ → List ℕ
cell_count number = grouped number ++ noun_of number (codes " cell") (codes " cells")

-- a number of guesses
abbrev pub guess_count : ℕ → List ℕ
guess_count number = grouped number ++ noun_of number (codes " guess") (codes " guesses")
