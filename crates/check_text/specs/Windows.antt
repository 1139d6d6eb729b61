-- The part of a grid that pictures show.
use Rattle.std.specs.Prelude.{ℕ, ◌+◌, ◌-◌, ◌≤◌, Bool, ◌&&◌, ◌==◌, List, [], ◌++◌, min, codes, decimal, if◌then◌else◌, slice_index_or}
use Rattle.grid_core.specs.PartialGrid.{PartialGrid, IsSize}
use Rattle.diagnosis.specs.declared.differences.Position.{Position}
use Rattle.check_text.specs.declared.windows.Window.{Window}

-- the first index that a window shows along a side of `side` cells, if it is placed around `index`:
-- at least 11 indices before that, if there are as many, and early enough for 24
abbrev pub window_start : ℕ → ℕ → ℕ
window_start index side = min (index - 11) (side - 24)

-- the window of `g` around a position: at most 24 rows and 24 columns
abbrev pub window_around : PartialGrid → Position → Window
window_around g at = record {
  row = window_start at.row g.height;
  column = window_start at.column g.width;
  height = min g.height 24;
  width = min g.width 24;
}

-- the window is within `g`, whose sides are within the limits
pub record IsWindowOf (g : PartialGrid) (w : Window) : Type 0 where
  pub size : IsSize g.width g.height
  pub rows : w.row + w.height ≤ g.height
  pub columns : w.column + w.width ≤ g.width

-- the first of some positions; the upper left one if there is none
abbrev pub first_position : List Position → Position
first_position cells = slice_index_or cells 0 (record { row = 0; column = 0 })

-- whether the window shows all cells of `g`
abbrev pub is_whole : PartialGrid → Window → Bool
is_whole g w = w.height == g.height && (w.width == g.width)

-- the first and the last of `count` numbers from `start` on, counted from 1
abbrev pub shown_range : ℕ → ℕ → List ℕ
shown_range start count = decimal (start + 1) ++ codes " to " ++ decimal (start + count)

-- the line above pictures of a part of `g`; nothing if the window shows all cells
abbrev pub window_heading : PartialGrid → Window → List ℕ
window_heading g w =
    if is_whole g w then []
    else codes "    rows " ++ shown_range w.row w.height
    ++ codes ", columns " ++ shown_range w.column w.width ++ codes ":\n"
