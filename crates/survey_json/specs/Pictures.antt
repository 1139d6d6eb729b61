-- Pictures: an array with a string for each row, from the top, and in it a mark for each cell.
use Rattle.std.specs.Prelude.{ℕ, ◌+◌, ◌*◌, Bool, false, List, map, Option, Some, None, if◌then◌else◌, slice_index_or}
use Rattle.std.specs.List.{range_with_len}
use Rattle.grid_core.specs.Nonogram.{Nonogram}
use Rattle.grid_core.specs.PartialGrid.{PartialGrid}
use Rattle.grid_core.specs.Rows.{row_of}
use Rattle.diagnosis.specs.Differences.{is_different}
use Rattle.survey_text.specs.Grids.{cell_byte}
use Rattle.serde_json.specs.Data.{Data, null, string}
use Rattle.survey_json.specs.Values.{array_of}

-- row `y` of `g`: `#` for a filled cell, `.` for a blank one, `?` for an unknown one
abbrev pub grid_row : PartialGrid → ℕ → List ℕ
grid_row g y = map cell_byte (row_of g y)

-- the picture of `g`
abbrev pub grid_data : PartialGrid → Data
grid_data g = array_of (map (λ y. string (grid_row g y)) (range_with_len 0 g.height))

-- the mark for the cell in column `x` and row `y` of two grids: `*` if they differ in it, `.` if not
abbrev pub difference_mark : PartialGrid → PartialGrid → ℕ → ℕ → ℕ
difference_mark g h y x = if is_different g h (record { row = y; column = x }) then 42 else 46

-- in which cells of row `y` two grids differ
abbrev pub difference_row : PartialGrid → PartialGrid → ℕ → List ℕ
difference_row g h y = map (difference_mark g h y) (range_with_len 0 g.width)

-- the picture of the cells in which two grids of the size of `g` differ
abbrev pub differences_data : PartialGrid → PartialGrid → Data
differences_data g h =
    array_of (map (λ y. string (difference_row g h y)) (range_with_len 0 g.height))

-- the mark for a colour of a goal: `#` for filled, `.` for blank
abbrev pub colour_mark : Bool → ℕ
colour_mark filled = if filled then 35 else 46

-- row `y` of a goal whose values are those of rows of `width` cells
abbrev pub goal_row : ℕ → List Bool → ℕ → List ℕ
goal_row width values y =
    map (λ x. colour_mark (slice_index_or values (y * width + x) false)) (range_with_len 0 width)

-- the picture of a goal of `p`, or null if there is none
abbrev pub picture_or_null : Nonogram → Option (List Bool) → Data
picture_or_null p None = null
picture_or_null p (Some values) =
    array_of (map (λ y. string (goal_row p.width values y)) (range_with_len 0 p.height))

-- the picture of the goal of `p`, or null if it has none
abbrev pub goal_data : Nonogram → Data
goal_data p = picture_or_null p p.goal
