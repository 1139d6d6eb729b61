-- The lines of an axis: their number, and the positions of their cells.
use Rattle.std.specs.Prelude.{ℕ, ◌+◌, ◌*◌}
use Rattle.grid_core.specs.declared.axes.Axis.{Axis}
use Rattle.grid_core.specs.declared.axes.Axis.TheVariants.{Rows, Columns}

-- the number of lines of an axis in a grid of this width and height
abbrev pub line_count : Axis → ℕ → ℕ → ℕ
line_count Rows width height = height
line_count Columns width height = width

-- the row of cell `k` of line `i` of an axis
abbrev pub row_on : Axis → ℕ → ℕ → ℕ
row_on Rows i k = i
row_on Columns i k = k

-- the column of cell `k` of line `i` of an axis
abbrev pub column_on : Axis → ℕ → ℕ → ℕ
column_on Rows i k = k
column_on Columns i k = i

-- the index, in row order, of cell `k` of line `i` of an axis, in a grid of this width
abbrev pub cell_index_on : Axis → ℕ → ℕ → ℕ → ℕ
cell_index_on axis width i k = row_on axis i k * width + column_on axis i k
