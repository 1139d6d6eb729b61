-- What each step of trials does.
use Rattle.std.specs.Prelude.{◌≡◌, ◌≢◌, ℕ, Bool, IsTrue}
use Rattle.grid_core.specs.declared.cells.Cell.{Cell}
use Rattle.grid_core.specs.Nonogram.{lines_of}
use Rattle.solve_core.specs.Closure.{if_alive}
use Rattle.solve_core.specs.Trials.{trials}
use Rattle.solve_core.specs.declared.solving.propagation.Effect.{Effect}
use Rattle.solve_core.specs.declared.solving.propagation.Effect.TheVariants.{Dead}
use Rattle.solve_core.specs.steps.ConsistentColours.{AreConsistent}
use Rattle.solve_core.specs.steps.Trails.{CanAssign}
use Rattle.solve_core.specs.steps.Worklist.{StepsTowards}
use Rattle.solve_core.specs.steps.Workspaces.{WorkspaceState, IsAtFixpoint}

-- what a trial needs: the state is at a fixpoint, and the recorded colours aren't refuted
pub record IsReadyForTrial (s : WorkspaceState) : Type 0 where
  pub fixpoint : IsAtFixpoint s
  pub consistent : AreConsistent s.puzzle s.consistent s.board.cells

-- `colour` can be tried at index `place`
pub record CanTry (s : WorkspaceState) (place : ℕ) (colour : Cell) : Type 0 where
  pub ready : IsReadyForTrial s
  pub cell : CanAssign s.board.cells place colour

-- a colour was tried, and the board is as before
pub record LeavesBoard (old new : WorkspaceState) : Type 0 where
  pub puzzle : new.puzzle ≡ old.puzzle
  pub board : new.board ≡ old.board
  pub ready : IsReadyForTrial new

-- the step was one towards the grid closed under trials, and the state is ready for the next trial
-- unless the cells are dead
pub record Tries (effect : Effect) (old new : WorkspaceState) : Type 0 where
  pub puzzle : new.puzzle ≡ old.puzzle
  pub effect_is : StepsTowards (trials (lines_of old.puzzle)) effect old.board.cells new.board.cells
  pub ready : effect ≢ Dead → IsReadyForTrial new

-- the board was closed under trials
pub record ClosesUnderTrials (alive : Bool) (old new : WorkspaceState) : Type 0 where
  pub puzzle : new.puzzle ≡ old.puzzle
  pub tried : if_alive alive new.board.cells ≡ trials (lines_of old.puzzle) old.board.cells
  pub fixpoint : IsTrue alive → IsAtFixpoint new
