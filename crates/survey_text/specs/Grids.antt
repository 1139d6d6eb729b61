-- The text of a grid.
use Rattle.std.specs.Prelude.{ℕ, List, ◌++◌, map, codes}
use Rattle.std.specs.List.{flat_map, range_with_len}
use Rattle.grid_core.specs.declared.cells.Cell.{Cell}
use Rattle.grid_core.specs.declared.cells.Cell.TheVariants.{Unknown, Filled, Blank}
use Rattle.grid_core.specs.PartialGrid.{PartialGrid}
use Rattle.grid_core.specs.Rows.{row_of}

-- the printed byte of a cell: `?` if it is unknown, `#` if it is filled, `.` if it is blank
abbrev pub cell_byte : Cell → ℕ
cell_byte Unknown = 63
cell_byte Filled = 35
cell_byte Blank = 46

-- row `y` of `grid` as a line of text
abbrev pub row_text : PartialGrid → ℕ → List ℕ
row_text grid y = map cell_byte (row_of grid y) ++ codes "\n"

-- the first `count` rows of `grid` as lines of text, from the top
abbrev pub rows_text : PartialGrid → ℕ → List ℕ
rows_text grid count = flat_map (row_text grid) (range_with_len 0 count)

-- all rows of `grid` as lines of text, from the top
abbrev pub grid_text : PartialGrid → List ℕ
grid_text grid = rows_text grid grid.height
