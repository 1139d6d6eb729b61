-- Runs that are the beginning of a clue.
use Rattle.std.specs.Prelude.{◌≡◌, ◌≤◌, ℕ, Bool, true, false, List, ◌++◌, length, reverse, slice_index_or, take, Option, Some, None}
use Rattle.grid_core.specs.Runs.{runs}

-- cell `i` of a full line is filled
abbrev pub IsFilled : List Bool → ℕ → Type 0
IsFilled cells i = slice_index_or cells i false ≡ true

-- the list, reversed if the first argument is true
abbrev pub mirrored_if : {A : Type 0} → Bool → List A → List A
mirrored_if true xs = reverse xs
mirrored_if false xs = xs

-- the runs of `cells` are the first `count` numbers of `clue`; for `None`, they are not its
-- beginning
abbrev pub IsCluePrefix : List Bool → List ℕ → Option ℕ → Type 0
IsCluePrefix cells clue (Some count) = (count ≤ length clue) × (runs cells ≡ take count clue)
IsCluePrefix cells clue None = (others : List ℕ) → runs cells ++ others ≡ clue → ⊥
