-- The runs of a line whose cells are all known.
use Rattle.std.specs.Prelude.{ℕ, zero, suc, List, [], ◌∷◌, Bool, true, false, filter}

-- a list with its first number greater by 1, if it has one
abbrev pub first_longer : List ℕ → List ℕ
first_longer [] = []
first_longer (n ∷ ns) = suc n ∷ ns

-- the lengths of the stretches of filled cells before, between and after the blank cells, 0 for
-- each that is empty
abbrev pub stretches : List Bool → List ℕ
stretches [] = 0 ∷ []
stretches (true ∷ cells) = first_longer (stretches cells)
stretches (false ∷ cells) = 0 ∷ stretches cells

-- whether a number is greater than 0
abbrev pub is_positive : ℕ → Bool
is_positive zero = false
is_positive (suc n) = true

-- the lengths of the runs in `cells`, in order
abbrev pub runs : List Bool → List ℕ
runs cells = filter is_positive (stretches cells)
