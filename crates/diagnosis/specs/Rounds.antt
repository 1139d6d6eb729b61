-- A round of line deduction, as it is made.
use Rattle.std.specs.Prelude.{◌≡◌, Bool, is_none, ℕ, ◌*◌, ◌<◌, ◌≤◌, List, [], length, Option, Some, slice_index_or}
use Rattle.grid_core.specs.declared.axes.Axis.{Axis}
use Rattle.grid_core.specs.declared.cells.Cell.{Cell}
use Rattle.grid_core.specs.declared.cells.Cell.TheVariants.{Unknown}
use Rattle.grid_core.specs.Nonogram.{IsNonogram, Nonogram, clues_on}
use Rattle.solve_core.specs.Closure.{join_cells}
use Rattle.solve_core.specs.Sizes.{HasSizeOf}
use Rattle.diagnosis.specs.declared.contradictions.Rounds.{Rounds}
use Rattle.diagnosis.specs.declared.differences.Position.{Position}
use Rattle.diagnosis.specs.Contradictions.{deduced_on}

-- `lines` are the lines of an axis of `p`, each deduced from `grid` alone
pub record AreDeduced (axis : Axis) (p : Nonogram) (grid : List Cell) (lines : List (List Cell)) : Type 0 where
  pub count : length lines ≡ length (clues_on axis p)
  pub each : (i : ℕ) → i < length lines → deduced_on axis p grid i ≡ Some (slice_index_or lines i [])

-- each of `lines` has `len` cells
abbrev pub HaveLength : ℕ → List (List Cell) → Type 0
HaveLength len lines = (i : ℕ) → i < length lines → length (slice_index_or lines i []) ≡ len

-- the join of the values of a cell in its row and in its column
abbrev pub joined_in : List (List Cell) → List (List Cell) → Position → Option Cell
joined_in rows columns at =
    join_cells (slice_index_or (slice_index_or rows at.row []) at.column Unknown)
    (slice_index_or (slice_index_or columns at.column []) at.row Unknown)

-- whether a cell has different colours in its row and in its column
abbrev pub is_conflict : List (List Cell) → List (List Cell) → Position → Bool
is_conflict rows columns at = is_none (joined_in rows columns at)

-- `p` is a puzzle, and `rounds` has a grid of its size and tables for its lines
pub record AreRoundsOf (p : Nonogram) (rounds : Rounds) : Type 0 where
  pub puzzle : IsNonogram p
  pub size : HasSizeOf p rounds.grid
  pub cells : length rounds.grid.cells ≡ p.width * p.height
  pub width : p.width ≤ rounds.tables
  pub height : p.height ≤ rounds.tables
