-- The worklist of dirty lines, and the effect of a step of propagation or of trials.
use Rattle.std.specs.Prelude.{◌⊎◌, ◌≡◌, ℕ, ◌*◌, ◌<◌, List, length, Option, Some, None, slice_index_or}
use Rattle.grid_core.specs.declared.cells.Cell.{Cell}
use Rattle.grid_core.specs.declared.cells.Cell.TheVariants.{Unknown}
use Rattle.grid_core.specs.declared.axes.Axis.{Axis}
use Rattle.grid_core.specs.Nonogram.{Nonogram, IsNonogram, GridLine, line_on, crossing, cells_at}
use Rattle.grid_core.specs.steps.Axes.{line_count, cell_index_on}
use Rattle.line_core.specs.Deduction.{deduced}
use Rattle.solve_core.specs.Closure.{with_cells}
use Rattle.solve_core.specs.steps.LineMasks.{LineMasks, mask_on, IsInMask, IsMaskWithin}
use Rattle.solve_core.specs.steps.Trails.{unknown_count}
use Rattle.solve_core.specs.declared.solving.propagation.Effect.{Effect}
use Rattle.solve_core.specs.declared.solving.propagation.Effect.TheVariants.{Dead, Unchanged, Changed}

-- the line deduces just its own cells from the grid
abbrev pub IsDeduced : List Cell → GridLine → Type 0
IsDeduced grid line =
    deduced (cells_at Unknown grid line.indices) line.clue
    ≡ Some (cells_at Unknown grid line.indices)

-- `new` is the grid `old` with the deduced line, `certain`, written into it
pub record IsWritten (line : GridLine) (old new : List Cell) : Type 0 where
  pub certain : List Cell
  pub is_certain : deduced (cells_at Unknown old line.indices) line.clue ≡ Some certain
  pub written : new ≡ with_cells old line.indices certain

-- the effect of deducing one line: it is dead, it deduces just its own cells, or the deduced line
-- was written and fewer cells are unknown
abbrev pub IsPropagated : Effect → GridLine → List Cell → List Cell → Type 0
IsPropagated Dead line old new = deduced (cells_at Unknown old line.indices) line.clue ≡ None
IsPropagated Unchanged line old new = (new ≡ old) × IsDeduced old line
IsPropagated Changed line old new = IsWritten line old new × (unknown_count new < unknown_count old)

-- After cells were assigned on line `i` of an axis, the worklist `before` became `after`. On the
-- line's own axis it is unchanged. On the crossing axis no line was removed, only lines of the
-- puzzle were added, and a line that isn't on it has its old cell there.
pub record AddsToWorklist
    (p : Nonogram) (axis : Axis) (i : ℕ) (old new : List Cell) (before after : LineMasks)
    : Type 0 where
  pub own : mask_on axis after ≡ mask_on axis before
  pub kept :
      (k : ℕ) → IsInMask before (crossing axis) k → IsInMask after (crossing axis) k
  pub crossing_it : (k : ℕ) → IsInMask after (crossing axis) k →
      IsInMask before (crossing axis) k ⊎ (k < line_count (crossing axis) p.width p.height)
  pub same : (k : ℕ) → k < line_count (crossing axis) p.width p.height
      → (IsInMask after (crossing axis) k → ⊥)
      → slice_index_or new (cell_index_on axis p.width i k) Unknown
      ≡ slice_index_or old (cell_index_on axis p.width i k) Unknown

-- `dirty` is a worklist for the cells: it has only lines of the puzzle, and each line that isn't on
-- it deduces just its own cells
pub record IsWorklist (p : Nonogram) (dirty : LineMasks) (cells : List Cell) : Type 0 where
  pub puzzle : IsNonogram p
  pub size : length cells ≡ p.width * p.height
  pub within : IsMaskWithin p.width p.height dirty
  pub settled : (axis : Axis) (i : ℕ) → i < line_count axis p.width p.height →
      (IsInMask dirty axis i → ⊥) → IsDeduced cells (line_on axis p i)

-- `dirty` is a worklist for the cells after a step, unless the step found them dead
abbrev pub WorklistAfter : Effect → Nonogram → LineMasks → List Cell → Type 0
WorklistAfter Dead p dirty cells = Unit {0}
WorklistAfter Unchanged p dirty cells = IsWorklist p dirty cells
WorklistAfter Changed p dirty cells = IsWorklist p dirty cells

-- the effect of a step towards `f` (the closure, or trials) of the cells: `f` of them is dead, they
-- are unchanged, or fewer are unknown and `f` of them is the same as before
abbrev pub StepsTowards :
    (List Cell → Option (List Cell)) → Effect → List Cell → List Cell → Type 0
StepsTowards f Dead old new = f old ≡ None
StepsTowards f Unchanged old new = new ≡ old
StepsTowards f Changed old new = (f new ≡ f old) × (unknown_count new < unknown_count old)
