-- The known cells at the ends of a line, which are trimmed before it is deduced.
use Rattle.std.specs.Prelude.{◌≡◌, ◌-◌, ◌<◌, ◌≤◌, ◌↔◌, ℕ, Bool, true, List, ◌++◌, length, reverse, map, slice_index_or, take, drop, Option, Some, None}
use Rattle.grid_core.specs.declared.cells.Cell.{Cell}
use Rattle.grid_core.specs.declared.cells.Cell.TheVariants.{Unknown, Blank}
use Rattle.grid_core.specs.Cells.{is_filled, is_known}
use Rattle.grid_core.specs.Runs.{runs}

-- the first `cells` cells of the line are known
abbrev pub AreKnown : List Cell → ℕ → Type 0
AreKnown line cells = (i : ℕ) → i < cells → is_known (slice_index_or line i Unknown) ≡ true

-- the first `cells` cells of the line are known, and the last of them, if there are any, is blank
pub record IsKnownEnd (line : List Cell) (cells : ℕ) : Type 0 where
  pub within : cells ≤ length line
  pub known : AreKnown line cells
  pub closed : 0 < cells → slice_index_or line (cells - 1) Unknown ≡ Blank

-- for each of the first `cells` cells of the line, whether it is filled
abbrev pub filled_first : ℕ → List Cell → List Bool
filled_first cells line = map is_filled (take cells line)

-- a full line that begins with `front` and, mirrored, with `back` has the runs `clue` exactly if
-- the cells between have the numbers `from..to` of it; for `None`, no cells between have that
-- effect
abbrev pub IsInnerClue : List Bool → List Bool → List ℕ → Option (ℕ × ℕ) → Type 0
IsInnerClue front back clue (Some (from, to)) =
    (from ≤ to) × (to ≤ length clue)
    × ((cells : List Bool)
    → (runs (front ++ (cells ++ reverse back)) ≡ clue)
    ↔ (runs cells ≡ take (to - from) (drop from clue)))
IsInnerClue front back clue None =
    (cells : List Bool) → runs (front ++ (cells ++ reverse back)) ≡ clue → ⊥
