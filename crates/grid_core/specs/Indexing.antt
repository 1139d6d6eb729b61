-- At which indices the cells of rows and columns are in a list in row order.
use Rattle.std.specs.Prelude.{◌≡◌, ℕ, ◌+◌, ◌*◌, ◌<◌, Bool, false, List, length, take, drop, slice_index_or}
use Rattle.grid_core.specs.declared.axes.Axis.TheVariants.{Rows, Columns}
use Rattle.grid_core.specs.Nonogram.{Nonogram, cells_at, line_on}

-- the cells of each row `y` of `p` are the `p.width` cells from index `y * p.width` on
abbrev pub RowIsRange : Nonogram → Type 0
RowIsRange p = (full : List Bool) (y : ℕ) → length full ≡ p.width * p.height → y < p.height
    → cells_at false full ((line_on Rows p y).indices) ≡ take p.width (drop (y * p.width) full)

-- each column `x` of `p` has `p.height` cells, and cell `y` of it is the one at index
-- `x + y * p.width`, which is in range
abbrev pub ColumnIsStride : Nonogram → Type 0
ColumnIsStride p = (full : List Bool) (x : ℕ) → length full ≡ p.width * p.height → x < p.width
    → (length (cells_at false full ((line_on Columns p x).indices)) ≡ p.height)
    × ((y : ℕ) → y < p.height
    → (x + y * p.width < length full)
    × (slice_index_or (cells_at false full ((line_on Columns p x).indices)) y false
    ≡ slice_index_or full (x + y * p.width) false))
