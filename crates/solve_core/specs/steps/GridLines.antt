-- A grid as its rows and its columns.
use Rattle.std.specs.Prelude.{◌≡◌, ℕ, ◌*◌, ◌<◌, List, [], length, replicate, true, slice_index_or}
use Rattle.bit_sets.specs.Masks.{Has}
use Rattle.grid_core.specs.Cells.{is_known}
use Rattle.grid_core.specs.declared.cells.Cell.{Cell}
use Rattle.grid_core.specs.declared.axes.Axis.{Axis}
use Rattle.grid_core.specs.declared.cells.Cell.TheVariants.{Unknown}
use Rattle.grid_core.specs.declared.axes.Axis.TheVariants.{Rows, Columns}
use Rattle.grid_core.specs.Nonogram.{crossing, line_indices, cells_at}
use Rattle.grid_core.specs.PartialGrid.{PartialGrid, IsSize}
use Rattle.grid_core.specs.steps.Axes.{line_count}
use Rattle.solve_core.specs.Closure.{with_cells}

-- `rows` and `columns` are the lines of the grid `cells`
pub record AreLinesOf (cells : List Cell) (rows columns : List (List Cell)) : Type 0 where
  pub size : IsSize (length columns) (length rows)
  pub count : length cells ≡ length columns * length rows
  pub rows_are : (y : ℕ) → y < length rows → slice_index_or rows y [] ≡
      cells_at Unknown cells (line_indices Rows (length columns) (length rows) y)
  pub columns_are : (x : ℕ) → x < length columns → slice_index_or columns x [] ≡
      cells_at Unknown cells (line_indices Columns (length columns) (length rows) x)

-- the unknown grid of this size
abbrev pub unknown_lines : ℕ → ℕ → PartialGrid
unknown_lines width height =
    record { width = width; height = height; cells = replicate (width * height) Unknown }

-- the cells of line `i` of an axis
abbrev pub line_in : PartialGrid → Axis → ℕ → List Cell
line_in g axis i = cells_at Unknown g.cells (line_indices axis g.width g.height i)

-- the grid with the cells `new` in line `i` of an axis
abbrev pub with_line : PartialGrid → Axis → ℕ → List Cell → PartialGrid
with_line g axis i new =
    record {
      width = g.width;
      height = g.height;
      cells = with_cells g.cells (line_indices axis g.width g.height i) new;
    }

-- line `i` of an axis can be replaced by `new`: it differs at most at the indices `changes`, where
-- it's unknown or was unknown
pub record CanReplace (g : PartialGrid) (axis : Axis) (i : ℕ) (new : List Cell) (changes : ℕ)
    : Type 0 where
  pub line : i < line_count axis g.width g.height
  pub count : length new ≡ line_count (crossing axis) g.width g.height
  pub within : (k : ℕ) → Has changes k → k < line_count (crossing axis) g.width g.height
  pub unknown : (k : ℕ) → Has changes k → is_known (slice_index_or new k Unknown) ≡ true →
      slice_index_or (line_in g axis i) k Unknown ≡ Unknown
  pub others : (k : ℕ) → k < line_count (crossing axis) g.width g.height → (Has changes k → ⊥) →
      slice_index_or new k Unknown ≡ slice_index_or (line_in g axis i) k Unknown
