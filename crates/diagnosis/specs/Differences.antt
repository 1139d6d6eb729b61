-- The cells in which two grids differ.
use Rattle.std.specs.Prelude.{ℕ, ◌*◌, ◌/◌, ◌%◌, Bool, true, false, not, List, map, filter}
use Rattle.std.specs.List.{range_with_len}
use Rattle.grid_core.specs.declared.cells.Cell.{Cell}
use Rattle.grid_core.specs.declared.cells.Cell.TheVariants.{Unknown, Filled, Blank}
use Rattle.grid_core.specs.PartialGrid.{PartialGrid, cell_at}
use Rattle.diagnosis.specs.declared.differences.Position.{Position}

-- whether two cells are the same
abbrev pub is_same_cell : Cell → Cell → Bool
is_same_cell Unknown Unknown = true
is_same_cell Unknown Filled = false
is_same_cell Unknown Blank = false
is_same_cell Filled Unknown = false
is_same_cell Filled Filled = true
is_same_cell Filled Blank = false
is_same_cell Blank Unknown = false
is_same_cell Blank Filled = false
is_same_cell Blank Blank = true

-- the position of the cell at index `k` in row order, in a grid of `width` columns
abbrev pub position_at : ℕ → ℕ → Position
position_at width k = record { row = k / width; column = k % width }

-- the positions of all cells of a grid, in row order
abbrev pub positions : ℕ → ℕ → List Position
positions width height = map (position_at width) (range_with_len 0 (width * height))

-- whether the cells of two grids at a position differ
abbrev pub is_different : PartialGrid → PartialGrid → Position → Bool
is_different g h at =
    not (is_same_cell (cell_at g at.column at.row) (cell_at h at.column at.row))

-- the positions at which two grids of the size of `g` differ, in row order
abbrev pub differing_cells : PartialGrid → PartialGrid → List Position
differing_cells g h = filter (is_different g h) (positions g.width g.height)
