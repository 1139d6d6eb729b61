-- Pictures of two grids side by side, with the cells in which they differ.
use Rattle.std.specs.Prelude.{ℕ, List, ◌++◌, map, codes, if◌then◌else◌}
use Rattle.std.specs.List.{flat_map, range_with_len}
use Rattle.grid_core.specs.declared.cells.Cell.{Cell}
use Rattle.grid_core.specs.PartialGrid.{PartialGrid, cell_at}
use Rattle.diagnosis.specs.Differences.{is_same_cell}
use Rattle.survey_text.specs.Grids.{cell_byte}
use Rattle.check_text.specs.declared.windows.Window.{Window}

-- `*` for two cells that differ, and `.` for two that are the same
abbrev pub difference_byte : Cell → Cell → ℕ
difference_byte cell other = if is_same_cell cell other then 46 else 42

-- the cells of row `y` of `g` in the columns of a window
abbrev pub cells_text : PartialGrid → Window → ℕ → List ℕ
cells_text g w y = map (λ x. cell_byte (cell_at g x y)) (range_with_len w.column w.width)

-- in which cells of row `y` two grids differ, in the columns of a window
abbrev pub differences_text : PartialGrid → PartialGrid → Window → ℕ → List ℕ
differences_text g h w y =
    map (λ x. difference_byte (cell_at g x y) (cell_at h x y)) (range_with_len w.column w.width)

-- row `y` of the three pictures, as a line: of `g`, of `h`, and of the cells in which they differ
abbrev pub picture_row : PartialGrid → PartialGrid → Window → ℕ → List ℕ
picture_row g h w y =
    codes "    " ++ cells_text g w y ++ codes "   " ++ cells_text h w y ++ codes "   "
    ++ differences_text g h w y ++ codes "\n"

-- the rows of the three pictures, from the top
abbrev pub pictures : PartialGrid → PartialGrid → Window → List ℕ
pictures g h w = flat_map (picture_row g h w) (range_with_len w.row w.height)
