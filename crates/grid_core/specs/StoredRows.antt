-- The rows of a grid as they are stored: two sets of cell indices each, without a length.
use Rattle.std.specs.Prelude.{◌≡◌, ◌<◌, ◌≤◌, ◌-◌, ℕ, List, [], ◌++◌, length, map, replicate, slice_index_or}
use Rattle.bit_sets.specs.Masks.{bits_of}
use Rattle.grid_core.specs.declared.cells.Cell.{Cell}
use Rattle.grid_core.specs.declared.rows.Row.{Row}
use Rattle.grid_core.specs.Lines.{IsLine, line_cells}

-- the first `width` cells of `row`
abbrev pub row_cells : ℕ → Row → List Cell
row_cells width row = line_cells width (bits_of row.filled) (bits_of row.blank)

-- the first `width` cells of each of `rows`
abbrev pub rows_cells : ℕ → List Row → List (List Cell)
rows_cells width rows = map (row_cells width) rows

-- the sets of `row` are those of a line of `width` cells
unfoldable pub IsStoredRow : ℕ → Row → Type 0
IsStoredRow width row = IsLine 256 width (bits_of row.filled) (bits_of row.blank)

-- the row of unknown cells
abbrev pub unknown_row : Row
unknown_row = record { filled = record { low = 0; high = 0 }; blank = record { low = 0; high = 0 } }

-- `rows`, extended by unknown rows to `height` rows if they are fewer
abbrev pub padded_rows : ℕ → List Row → List Row
padded_rows height rows = rows ++ replicate (height - length rows) unknown_row

-- `rows` are the stored rows of a grid of `width` by `height` cells, the others being unknown, and
-- a capacity of `capacity` suffices for all rows
pub record AreRows (width height : ℕ) (rows : List Row) (capacity : ℕ) : Type 0 where
  pub each : (y : ℕ) → y < length rows → (row : Row) → IsStoredRow width (slice_index_or rows y row)
  pub written : length rows ≤ height
  pub capacity_is : height ≤ capacity

-- `rows` store `lines`, one row for each line
pub record AreRowsOf (lines : List (List Cell)) (rows : List Row) : Type 0 where
  pub count : length rows ≡ length lines
  pub each : (y : ℕ) → y < length rows → (row : Row)
      → IsStoredRow (length (slice_index_or lines y [])) (slice_index_or rows y row)
  pub cells : (y : ℕ) → y < length rows → (row : Row)
      → row_cells (length (slice_index_or lines y [])) (slice_index_or rows y row)
      ≡ slice_index_or lines y []
