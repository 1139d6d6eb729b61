-- Writing the changed cells of a line into the lines that cross it.
use Rattle.std.specs.Prelude.{◌≡◌, ℕ, ◌+◌, ◌<◌, ◌≤◌, List, [], length, true, slice_index_or}
use Rattle.grid_core.specs.declared.cells.Cell.{Cell}
use Rattle.grid_core.specs.declared.cells.Cell.TheVariants.{Unknown}
use Rattle.grid_core.specs.Cells.{is_known}
use Rattle.bit_sets.specs.Masks.{Has}

-- `cell` can be written into cell `i` of line `k`: the cell exists, and is unknown if `cell` is
-- known
pub record CanWriteIn (lines : List (List Cell)) (i : ℕ) (cell : Cell) (k : ℕ) : Type 0 where
  pub line : k < length lines
  pub within : i < length (slice_index_or lines k [])
  pub unknown :
      is_known cell ≡ true → slice_index_or (slice_index_or lines k []) i Unknown ≡ Unknown

-- `k` is in the set `indices` and in the 64-bit word that starts at index `from`
abbrev pub IsIn : ℕ → ℕ → ℕ → Type 0
IsIn indices from k = Has indices k × (from ≤ k) × (k < from + 64)
