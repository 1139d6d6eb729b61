-- What each step of propagation does.
use Rattle.std.specs.Prelude.{◌≡◌, ℕ, Bool, false, List, None, IsTrue, slice_set}
use Rattle.grid_core.specs.declared.cells.Cell.{Cell}
use Rattle.grid_core.specs.declared.axes.Axis.{Axis}
use Rattle.grid_core.specs.Nonogram.{crossing, line_on, lines_of}
use Rattle.solve_core.specs.Closure.{closure, if_alive}
use Rattle.solve_core.specs.declared.solving.propagation.Effect.{Effect}
use Rattle.solve_core.specs.declared.solving.propagation.Effect.TheVariants.{Unchanged}
use Rattle.solve_core.specs.steps.LineMasks.{LineMasks, IsEmptyMask, IsInMask, mask_on}
use Rattle.solve_core.specs.steps.Worklist.{AddsToWorklist, IsPropagated, StepsTowards, WorklistAfter}
use Rattle.solve_core.specs.steps.Workspaces.{WorkspaceState, HasWorklist, IsAtFixpoint, IsLater}

-- line `i` of an axis was deduced, and its deduced cells written: the lines that cross it at a
-- change are dirty
pub record Deduces (axis : Axis) (i : ℕ) (effect : Effect) (old new : WorkspaceState) : Type 0 where
  pub later : IsLater old new
  pub assigned : IsPropagated effect (line_on axis old.puzzle i) old.board.cells new.board.cells
  pub worklist :
      AddsToWorklist old.puzzle axis i old.board.cells new.board.cells old.dirty new.dirty
  pub same : effect ≡ Unchanged → new.dirty ≡ old.dirty

-- the step was one towards the closure, and there is a worklist unless the cells are dead
pub record Propagates (effect : Effect) (old new : WorkspaceState) : Type 0 where
  pub later : IsLater old new
  pub effect_is :
      StepsTowards (closure (lines_of old.puzzle)) effect old.board.cells new.board.cells
  pub worklist : WorklistAfter effect new.puzzle new.dirty new.board.cells

-- such a step, on lines of one axis: if it changed nothing, no line of the other axis became dirty
pub record PropagatesOn (axis : Axis) (effect : Effect) (old new : WorkspaceState) : Type 0 where
  pub step : Propagates effect old new
  pub same : effect ≡ Unchanged
      → mask_on (crossing axis) new.dirty ≡ mask_on (crossing axis) old.dirty

-- of `lines`, none is dirty any more, unless the board was found to be dead
pub record PropagatesLines (lines : LineMasks) (alive : Bool) (old new : WorkspaceState)
    : Type 0 where
  pub later : IsLater old new
  pub dead : alive ≡ false → closure (lines_of old.puzzle) old.board.cells ≡ None
  pub kept : IsTrue alive → closure (lines_of old.puzzle) new.board.cells
      ≡ closure (lines_of old.puzzle) old.board.cells
  pub worklist : IsTrue alive → HasWorklist new
  pub none_dirty : IsTrue alive → (axis : Axis) (i : ℕ) → IsInMask lines axis i
      → IsInMask new.dirty axis i → ⊥

-- the board was closed from `cells`, and no line is dirty
pub record Closes (cells : List Cell) (alive : Bool) (old new : WorkspaceState) : Type 0 where
  pub later : IsLater old new
  pub closed : if_alive alive new.board.cells ≡ closure (lines_of old.puzzle) cells
  pub clean : IsEmptyMask new.dirty
  pub fixpoint : IsTrue alive → IsAtFixpoint new

-- `colour` was assigned at index `place`, and its row and its column are dirty
pub record Enqueues (place : ℕ) (colour : Cell) (old new : WorkspaceState) : Type 0 where
  pub later : IsLater old new
  pub cells : new.board.cells ≡ slice_set old.board.cells place colour
  pub worklist : HasWorklist new
