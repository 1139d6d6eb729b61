-- How many of two sets have an index, the highest of several scores, and the neighbours of a cell.
use Rattle.std.specs.Prelude.{◌≡◌, ℕ, ◌+◌, ◌-◌, ◌*◌, ◌<◌, ◌≤◌, Bool, not, ◌||◌, nat_eq, cond, Option, Some, None}
use Rattle.grid_core.specs.PartialGrid.{PartialGrid}
use Rattle.grid_core.specs.Lines.{IsUnknownCell}
use Rattle.bit_sets.specs.Masks.{has}
use Rattle.solve_core.specs.Picks.{is_above_known, is_below_known}

-- how many of two flags are true
abbrev pub two_of : Bool → Bool → ℕ
two_of a b = cond a 1 0 + cond b 1 0

-- how many of two sets have index `i`
abbrev pub set_count : ℕ × ℕ → ℕ → ℕ
set_count sets i = two_of (has sets.0 i) (has sets.1 i)

-- `found` is the highest score among the indices of which `P` holds, and the first index that has
-- it; `None` if no score is at least `least`
abbrev pub IsFirstHighest : (ℕ → ℕ) → (ℕ → Type 0) → ℕ → Option (ℕ × ℕ) → Type 0
IsFirstHighest score P least None = (i : ℕ) → P i → score i < least
IsFirstHighest score P least (Some found) =
    P found.1 × (found.0 ≡ score found.1) × (least ≤ found.0)
    × ((i : ℕ) → P i → score i ≤ found.0)
    × ((i : ℕ) → P i → i < found.1 → score i < found.0)

-- the cell in column `x` and row `y` is an unknown cell of the grid
abbrev pub IsUnknownIn : PartialGrid → ℕ → ℕ → Type 0
IsUnknownIn g y x = (x < g.width) × IsUnknownCell g.cells (y * g.width + x)

-- of the left and the right neighbour of cell `x` of a row, how many are known or outside the grid;
-- the row's unknown cells are those in `unknown`
abbrev pub count_beside : ℕ → ℕ → ℕ
count_beside unknown x =
    two_of (nat_eq x 0 || not (has unknown (x - 1))) (not (has unknown (x + 1)))

-- of the neighbours above and below the cell in column `x` and row `y`, how many are known or
-- outside the grid
abbrev pub count_across : PartialGrid → ℕ → ℕ → ℕ
count_across g y x =
    two_of
    (is_above_known g.width g.cells (y * g.width + x))
    (is_below_known g.width g.cells (y * g.width + x))
