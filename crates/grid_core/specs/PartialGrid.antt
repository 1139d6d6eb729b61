-- Partly known grids.
use Rattle.std.specs.Prelude.{ℕ, ◌+◌, ◌*◌, ◌≤◌, List, slice_index_or}
use Rattle.grid_core.specs.declared.cells.Cell.{Cell}
use Rattle.grid_core.specs.declared.cells.Cell.TheVariants.{Unknown}
use Rattle.grid_core.specs.declared.limits.TheConstants.{MAX_SIDE}

-- a partly known grid: its width and height, and its cells in row order
pub record PartialGrid : Type 0 where
  pub width : ℕ
  pub height : ℕ
  pub cells : List Cell

-- `width` and `height` are from 1 to `limit`
pub record IsSizeWithin (limit width height : ℕ) : Type 0 where
  pub width_from : 1 ≤ width
  pub width_to : width ≤ limit
  pub height_from : 1 ≤ height
  pub height_to : height ≤ limit

-- `width` and `height` are those of a puzzle: from 1 to 256
abbrev pub IsSize : ℕ → ℕ → Type 0
IsSize width height = IsSizeWithin MAX_SIDE width height

-- the index, in row order, of the cell of `g` in column `x` and row `y`
abbrev pub cell_index : PartialGrid → ℕ → ℕ → ℕ
cell_index g x y = y * g.width + x

-- the cell of `g` in column `x` and row `y`
abbrev pub cell_at : PartialGrid → ℕ → ℕ → Cell
cell_at g x y = slice_index_or g.cells (cell_index g x y) Unknown
