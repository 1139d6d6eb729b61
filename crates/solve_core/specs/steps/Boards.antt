-- Boards: grids with a trail of the assignments made in them.
use Rattle.std.specs.Prelude.{◌≡◌, ◌≢◌, ℕ, ◌+◌, ◌*◌, ◌<◌, ◌≤◌, List, [], drop, length, map, replicate}
use Rattle.std.specs.List.{AllByRecursion}
use Rattle.grid_core.specs.declared.cells.Cell.{Cell}
use Rattle.grid_core.specs.declared.cells.Cell.TheVariants.{Unknown}
use Rattle.grid_core.specs.declared.axes.Axis.{Axis}
use Rattle.grid_core.specs.Cells.{Extends}
use Rattle.grid_core.specs.Lines.{IsChanged}
use Rattle.grid_core.specs.Nonogram.{Nonogram, cells_at, line_indices}
use Rattle.grid_core.specs.steps.Axes.{line_count}
use Rattle.bit_sets.specs.Masks.{IsMaskOf}
use Rattle.grid_core.specs.PartialGrid.{PartialGrid, IsSize}
use Rattle.solve_core.specs.steps.Trails.{LineEntry, TrailedGrid, IsEntryOf, undone, entry_on, unknown_count}

-- the unknown board of this size, with an empty trail
abbrev pub unknown_board : ℕ → ℕ → TrailedGrid
unknown_board width height =
    record {
      width = width;
      height = height;
      cells = replicate (width * height) Unknown;
      trail = [];
    }

-- the grid `g` with an empty trail
abbrev pub board_without_trail : PartialGrid → TrailedGrid
board_without_trail g = record { width = g.width; height = g.height; cells = g.cells; trail = [] }

-- the board without its trail
abbrev pub grid_of_board : TrailedGrid → PartialGrid
grid_of_board g = record { width = g.width; height = g.height; cells = g.cells }

-- the grid `g` with a trail of these entries
abbrev pub board_of : PartialGrid → List LineEntry → TrailedGrid
board_of g entries =
    record {
      width = g.width;
      height = g.height;
      cells = g.cells;
      trail = map (entry_on g.width g.height) entries;
    }

-- The invariant of a board, with sets of `most` indices and a trail capacity of `capacity`: the
-- entries `entries` are of the grid's lines; and after undoing to any checkpoint `checkpoint`, the
-- trail's length and the unknown cells together are at most the number of cells, so that no
-- assignment exceeds the capacity.
pub record IsBoard (most : ℕ) (g : PartialGrid) (entries : List LineEntry) (capacity : ℕ)
    : Type 0 where
  pub size : IsSize g.width g.height
  pub fits : (g.width ≤ most) × (g.height ≤ most)
  pub count : length g.cells ≡ g.width * g.height
  pub entries_are : AllByRecursion (IsEntryOf g.width g.height) entries
  pub settled : (checkpoint : ℕ) → checkpoint ≤ length entries →
      checkpoint
      + unknown_count (undone g.cells (drop checkpoint (map (entry_on g.width g.height) entries)))
      ≤ length g.cells
  pub capacity_is : length g.cells ≤ capacity

-- the board `g` has the size of the puzzle `p`
abbrev pub IsBoardOf : Nonogram → TrailedGrid → Type 0
IsBoardOf p g =
    (g.width ≡ p.width) × (g.height ≡ p.height) × (length g.cells ≡ p.width * p.height)

-- the size of `g` is in range, and it has as many cells as that size needs
abbrev pub IsWhole : TrailedGrid → Type 0
IsWhole g = IsSize g.width g.height × (length g.cells ≡ g.width * g.height)

-- the cells of `g` along line `i` of an axis
abbrev pub cells_along : TrailedGrid → Axis → ℕ → List Cell
cells_along g axis i = cells_at Unknown g.cells (line_indices axis g.width g.height i)

-- the cells of line `i` of an axis can become `new` by assigning those at the indices `changes`, at
-- least one
pub record CanAssignLine (g : TrailedGrid) (axis : Axis) (i : ℕ) (new : List Cell) (changes : ℕ)
    : Type 0 where
  pub line : i < line_count axis g.width g.height
  pub more : Extends (cells_along g axis i) new
  pub changes_are : IsMaskOf (IsChanged (cells_along g axis i) new) changes
  pub some : new ≢ cells_along g axis i
