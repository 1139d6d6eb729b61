-- Lines that are stored as two bit sets.
use Rattle.std.specs.Prelude.{◌≡◌, ◌≢◌, ◌<◌, ◌≤◌, ℕ, Bool, true, false, cond, List, length, map, slice_index_or, Option, Some, None}
use Rattle.std.specs.List.{range_with_len}
use Rattle.grid_core.specs.declared.cells.Cell.{Cell}
use Rattle.grid_core.specs.declared.cells.Cell.TheVariants.{Unknown, Filled, Blank}
use Rattle.grid_core.specs.Cells.{is_unknown}
use Rattle.bit_sets.specs.Masks.{Has, has}

-- whether a cell is known to be blank
abbrev pub is_blank : Cell → Bool
is_blank Unknown = false
is_blank Filled = false
is_blank Blank = true

-- the cell that is filled if the first value is true, otherwise blank if the second is, otherwise
-- unknown
abbrev pub cell_with : Bool → Bool → Cell
cell_with true blank = Filled
cell_with false true = Blank
cell_with false false = Unknown

-- the cells of a line of `len` cells whose sets are `filled` and `blank`
abbrev pub line_cells : ℕ → ℕ → ℕ → List Cell
line_cells len filled blank =
    map (λ index. cell_with (has filled index) (has blank index)) (range_with_len 0 len)

-- `line` with the cells at the indices in `places` unknown
abbrev pub with_unknown_at : ℕ → List Cell → List Cell
with_unknown_at indices line =
    map (λ k. cond (has indices k) Unknown (slice_index_or line k Unknown))
    (range_with_len 0 (length line))

-- `filled` and `blank` are the sets of a line of `len` cells: it has from 1 to `width` cells and at
-- most 256, no index is in both sets, and each is less than `len`; the invariant of the type
-- `BitLine`
pub record IsLine (width len filled blank : ℕ) : Type 0 where
  pub some : 1 ≤ len
  pub short : len ≤ width
  pub within : len ≤ 256
  pub apart : (i : ℕ) → Has filled i → Has blank i → ⊥
  pub filled_in : (i : ℕ) → Has filled i → i < len
  pub blank_in : (i : ℕ) → Has blank i → i < len

-- `line` and `other` differ at index `i`
abbrev pub IsChanged : List Cell → List Cell → ℕ → Type 0
IsChanged line other i =
    (i < length line) × (slice_index_or other i Unknown ≢ slice_index_or line i Unknown)

-- the cell at index `i` is unknown
abbrev pub IsUnknownCell : List Cell → ℕ → Type 0
IsUnknownCell cells i = (i < length cells) × (slice_index_or cells i Unknown ≡ Unknown)

-- the last argument is the index of the first unknown cell at or after index `from`, or none if
-- there is no such cell
abbrev pub IsUnknownFrom : List Cell → ℕ → Option ℕ → Type 0
IsUnknownFrom cells from None = (k : ℕ) → from ≤ k → k < length cells
    → is_unknown (slice_index_or cells k Unknown) ≡ false
IsUnknownFrom cells from (Some index) =
    (from ≤ index) × (index < length cells) × (slice_index_or cells index Unknown ≡ Unknown)
    × ((k : ℕ) → from ≤ k → k < index → is_unknown (slice_index_or cells k Unknown) ≡ false)
