-- The rows in which a puzzle's goal and a grid differ.
use Rattle.std.specs.Prelude.{ℕ, Bool, true, false, not, List, [], filter, Option, Some, None, slice_index_or}
use Rattle.std.specs.List.{list_any, range_with_len}
use Rattle.grid_core.specs.declared.cells.Cell.{Cell}
use Rattle.grid_core.specs.Cells.{is_filled}
use Rattle.grid_core.specs.Nonogram.{Nonogram}
use Rattle.grid_core.specs.PartialGrid.{PartialGrid, cell_at, cell_index}

-- whether a cell is filled, if the first argument is true, or isn't, if it is false
abbrev pub has_colour : Bool → Cell → Bool
has_colour true cell = is_filled cell
has_colour false cell = not (is_filled cell)

-- whether the cell of `g` in column `x` and row `y` doesn't have the goal's colour
abbrev pub is_cell_off : List Bool → PartialGrid → ℕ → ℕ → Bool
is_cell_off goal g y x = not (has_colour (slice_index_or goal (cell_index g x y) false) (cell_at g x y))

-- whether some cell of row `y` of `g` doesn't have the goal's colour
abbrev pub is_row_off : List Bool → PartialGrid → ℕ → Bool
is_row_off goal g y = list_any (is_cell_off goal g y) (range_with_len 0 g.width)

-- the rows of `g` in which some cell doesn't have the goal's colour
abbrev pub rows_off : List Bool → PartialGrid → List ℕ
rows_off goal g = filter (is_row_off goal g) (range_with_len 0 g.height)

-- the rows of `g` that differ from the goal, if there is one
abbrev pub rows_off_goal : Option (List Bool) → PartialGrid → List ℕ
rows_off_goal None g = []
rows_off_goal (Some goal) g = rows_off goal g

-- the rows in which the goal of `p`, if it has one, and `g` differ
abbrev pub goal_rows : Nonogram → PartialGrid → List ℕ
goal_rows p g = rows_off_goal p.goal g
