-- The rows of a grid: reading one, replacing one, and joining them all.
use Rattle.std.specs.Prelude.{ℕ, ◌+◌, ◌*◌, List, [], ◌∷◌, ◌++◌, map, take, drop}
use Rattle.std.specs.List.{range_with_len}
use Rattle.grid_core.specs.declared.cells.Cell.{Cell}
use Rattle.grid_core.specs.PartialGrid.{PartialGrid, cell_at}

-- the cells of the rows, one row after the other
abbrev pub cells_of_rows : List (List Cell) → List Cell
cells_of_rows [] = []
cells_of_rows (row ∷ rows) = row ++ cells_of_rows rows

-- the grid `g` with `row` as the cells of row `y`
abbrev pub with_row : PartialGrid → ℕ → List Cell → PartialGrid
with_row g y row = record g {
  cells = take (y * g.width) g.cells ++ row ++ drop (y * g.width + g.width) g.cells;
}

-- the cells of row `y` of `g`
abbrev pub row_of : PartialGrid → ℕ → List Cell
row_of g y = map (λ x. cell_at g x y) (range_with_len 0 g.width)
