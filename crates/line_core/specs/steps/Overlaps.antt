-- The cells that runs fill wherever they start, on a line whose cells are all unknown.
use Rattle.std.specs.Prelude.{ℕ, ◌+◌, ◌<◌, ◌≤◌, List, length, slice_index_or, take}
use Rattle.std.specs.List.{sum_by}

-- the number of cells that the runs of a clue take, each with a blank cell after it
abbrev pub needed : List ℕ → ℕ
needed clue = sum_by (λ n. n + 1) clue

-- the least start of run `j`, counted from 0: after the runs before it, each with a blank cell
-- after it
abbrev pub least_start : List ℕ → ℕ → ℕ
least_start clue j = needed (take j clue)

-- cell `i` is in the overlap of one of the first `count` runs: the run fills it both from its least
-- start and from `slack` cells further right
abbrev pub IsOverlapBefore : ℕ → List ℕ → ℕ → ℕ → Type 0
IsOverlapBefore count clue slack i =
    (j : ℕ) × (j < count)
    × (least_start clue j + slack ≤ i) × (i < least_start clue j + slice_index_or clue j 0)

-- a cell is in the overlap of some run of `clue`
abbrev pub IsOverlap : List ℕ → ℕ → ℕ → Type 0
IsOverlap clue = IsOverlapBefore (length clue) clue
