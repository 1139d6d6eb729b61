-- The rules that choose the cell of the next guess.
use Rattle.std.specs.Prelude.{ℕ, zero, suc, ◌+◌, ◌-◌, ◌%◌, Bool, cond, nat_eq, nat_lt, nat_le, List, length, slice_index_or, Option, Some, None, ◌||◌}
use Rattle.grid_core.specs.declared.cells.Cell.{Cell}
use Rattle.grid_core.specs.declared.cells.Cell.TheVariants.{Unknown}
use Rattle.grid_core.specs.Cells.{is_unknown, is_known}
use Rattle.solve_core.specs.declared.picks.Pick.{Pick}
use Rattle.solve_core.specs.declared.picks.Pick.TheVariants.{First, Most}
use Rattle.solve_core.specs.Search.{first_unknown}

-- whether a neighbour is outside the grid or known
abbrev pub is_known_or_outside : Bool → Cell → Bool
is_known_or_outside outside cell = outside || is_known cell

-- whether the left neighbour of cell `k`, in a grid of `width` columns, is known or outside the
-- grid
abbrev pub is_left_known : ℕ → List Cell → ℕ → Bool
is_left_known width cells k =
    is_known_or_outside (nat_eq (k % width) 0) (slice_index_or cells (k - 1) Unknown)

-- whether the right neighbour of cell `k` is known or outside the grid
abbrev pub is_right_known : ℕ → List Cell → ℕ → Bool
is_right_known width cells k =
    is_known_or_outside (nat_eq (k % width + 1) width) (slice_index_or cells (k + 1) Unknown)

-- whether the neighbour above cell `k` is known or outside the grid
abbrev pub is_above_known : ℕ → List Cell → ℕ → Bool
is_above_known width cells k =
    is_known_or_outside (nat_lt k width) (slice_index_or cells (k - width) Unknown)

-- whether the neighbour below cell `k` is known or outside the grid
abbrev pub is_below_known : ℕ → List Cell → ℕ → Bool
is_below_known width cells k =
    is_known_or_outside (nat_le (length cells) (k + width))
    (slice_index_or cells (k + width) Unknown)

-- how many of the four neighbours of cell `k` are known or outside the grid
abbrev pub known_neighbours : ℕ → List Cell → ℕ → ℕ
known_neighbours width cells k =
    cond (is_left_known width cells k) 1 0
    + cond (is_right_known width cells k) 1 0
    + cond (is_above_known width cells k) 1 0
    + cond (is_below_known width cells k) 1 0

-- the better of two indices: the later one, `k`, if its score is higher, and otherwise the earlier
-- one
abbrev pub better : (ℕ → ℕ) → Option ℕ → ℕ → Option ℕ
better score None k = Some k
better score (Some j) k = cond (nat_lt (score j) (score k)) (Some k) (Some j)

-- of the indices below `n` that pass a test, the first one with the highest score; `None` if none
-- passes
abbrev pub first_most : (ℕ → ℕ) → (ℕ → Bool) → ℕ → Option ℕ
first_most score passes zero = None
first_most score passes (suc n) =
    cond (passes n) (better score (first_most score passes n) n) (first_most score passes n)

-- of the unknown cells, the first one in row order with the most known neighbours
abbrev pub most_known : ℕ → List Cell → Option ℕ
most_known width cells =
    first_most
    (known_neighbours width cells)
    (λ k. is_unknown (slice_index_or cells k Unknown))
    (length cells)

-- the cell that the rule picks for the next guess in a grid of `width` columns
abbrev pub picked : Pick → ℕ → List Cell → Option ℕ
picked First width cells = first_unknown cells
picked Most width cells = most_known width cells
