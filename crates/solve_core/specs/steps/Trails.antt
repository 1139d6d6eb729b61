-- The trail of a board: its assignments in order, by which they can be undone.
use Rattle.std.specs.Prelude.{◌≡◌, ℕ, suc, ◌+◌, ◌<◌, ◌≤◌, List, [], ◌∷◌, ◌++◌, length, true, slice_index_or}
use Rattle.grid_core.specs.Cells.{is_known}
use Rattle.grid_core.specs.Lines.{with_unknown_at}
use Rattle.grid_core.specs.Nonogram.{cells_at, crossing, line_indices}
use Rattle.grid_core.specs.declared.cells.Cell.{Cell}
use Rattle.grid_core.specs.declared.cells.Cell.TheVariants.{Unknown, Filled, Blank}
use Rattle.grid_core.specs.declared.axes.Axis.{Axis}
use Rattle.grid_core.specs.steps.Axes.{line_count}
use Rattle.bit_sets.specs.Masks.{Has}
use Rattle.solve_core.specs.Closure.{with_cells}

-- a trail entry: the axis and the number of a line, and the indices of its cells that were assigned
pub record LineEntry : Type 0 where
  pub axis : Axis
  pub line : ℕ
  pub changes : ℕ

-- a trail entry in a grid: the cell indices of its line, and which of them were assigned
pub record CellEntry : Type 0 where
  pub indices : List ℕ
  pub changes : ℕ

-- a grid with its cells in row order and its trail, earliest entry first
pub record TrailedGrid : Type 0 where
  pub width : ℕ
  pub height : ℕ
  pub cells : List Cell
  pub trail : List CellEntry

-- the entry `entry` in a grid of this size
abbrev pub entry_on : ℕ → ℕ → LineEntry → CellEntry
entry_on width height entry =
    record { indices = line_indices entry.axis width height entry.line; changes = entry.changes }

-- the entry's line and its changes are within a grid of this size
pub record IsEntryOf (width height : ℕ) (entry : LineEntry) : Type 0 where
  pub line_in : entry.line < line_count entry.axis width height
  pub within : (k : ℕ) → Has entry.changes k → k < line_count (crossing entry.axis) width height

-- how many cells are unknown
abbrev pub unknown_count : List Cell → ℕ
unknown_count [] = 0
unknown_count (Unknown ∷ g) = suc (unknown_count g)
unknown_count (Filled ∷ g) = unknown_count g
unknown_count (Blank ∷ g) = unknown_count g

-- `colour` can be assigned at index `place`: the cell exists and is unknown, and the colour is
-- known
pub record CanAssign (cells : List Cell) (place : ℕ) (colour : Cell) : Type 0 where
  pub within : place < length cells
  pub unknown : slice_index_or cells place Unknown ≡ Unknown
  pub known : is_known colour ≡ true

-- the cells with one entry undone: those that it assigned are unknown
abbrev pub undo_entry : List Cell → CellEntry → List Cell
undo_entry cells entry =
    with_cells cells entry.indices
    (with_unknown_at entry.changes (cells_at Unknown cells entry.indices))

-- the cells with all of some entries undone, the last entry first
abbrev pub undone : List Cell → List CellEntry → List Cell
undone cells [] = cells
undone cells (entry ∷ entries) = undo_entry (undone cells entries) entry

-- `new` is the board `old` with the entries `added` at the end of its trail: undoing them restores
-- the old cells, and each of them assigned at least one cell
pub record IsTrailed (old new : TrailedGrid) : Type 0 where
  pub added : List CellEntry
  pub width : new.width ≡ old.width
  pub height : new.height ≡ old.height
  pub kept : new.trail ≡ old.trail ++ added
  pub undo : undone new.cells added ≡ old.cells
  pub count : length added + unknown_count new.cells ≤ unknown_count old.cells
