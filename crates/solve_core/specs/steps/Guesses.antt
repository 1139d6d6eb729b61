-- The events that a search in progress still owes, and what its steps do.
use Rattle.std.specs.Prelude.{◌≡◌, ℕ, ◌*◌, ◌<◌, ◌≤◌, ◌++◌, List, length, Option, slice_set}
use Rattle.grid_core.specs.declared.cells.Cell.{Cell}
use Rattle.grid_core.specs.PartialGrid.{PartialGrid}
use Rattle.grid_core.specs.Nonogram.{Nonogram, lines_of}
use Rattle.solve_core.specs.declared.searching.branches.Branch.{Branch}
use Rattle.solve_core.specs.Search.{Event, events, guess_at}
use Rattle.solve_core.specs.Sizes.{IsSizeOf}
use Rattle.solve_core.specs.steps.Trails.{TrailedGrid}
use Rattle.solve_core.specs.steps.Endings.{ending}
use Rattle.solve_core.specs.steps.FoundGrids.{FoundGrids}
use Rattle.solve_core.specs.steps.LineMasks.{IsEmptyMask}
use Rattle.solve_core.specs.steps.Branches.{IsClosed, IsNextCell, IsNextGuess, AreBranchesOf, AreOlder, pending, events_from_cell, events_from_guess}
use Rattle.solve_core.specs.steps.Workspaces.{WorkspaceState}

-- the events that the branches owe on the board `g`
abbrev pub owed_by :
    (List Cell → Option ℕ) → Nonogram → List Branch → TrailedGrid → List Event
owed_by pick p branches g = pending pick (lines_of p) g.cells g.trail branches

-- the events that a search owes: the two guesses of the cell to guess, if there is one, and then
-- what the branches owe
abbrev pub owed :
    (List Cell → Option ℕ) → Nonogram → List Branch → TrailedGrid → Option ℕ → List Event
owed pick p branches g next =
    events_from_cell pick (lines_of p) g.cells next (owed_by pick p branches g)

-- the search can continue: its branches are valid, and the cell to guess, if there is one, is the
-- next one on the board `g`
pub record IsUnderWay
    (pick : List Cell → Option ℕ) (p : Nonogram) (branches : List Branch) (g : TrailedGrid)
    (next : Option ℕ) : Type 0 where
  pub work : AreBranchesOf pick (lines_of p) g.cells g.trail branches
  pub older : AreOlder g.trail branches next
  pub next_cell : IsNextCell pick (lines_of p) g.cells next

-- the solutions found are grids of the puzzle's size, and fewer than two
pub record HasRoom (p : Nonogram) (found : FoundGrids) : Type 0 where
  pub size : IsSizeOf p found.width found.height
  pub few : length found.grids < 2

-- the solutions found are grids of the puzzle's size, and at most two
pub record AreFound (p : Nonogram) (found : FoundGrids) : Type 0 where
  pub size : IsSizeOf p found.width found.height
  pub most : length found.grids ≤ 2

-- The cell to guess on a closed board was looked for: without one the board was added to the
-- solutions found, `before`. The search ends as it would with the events at that board, and owes no
-- more events than these.
pub record FindsNext
    (pick : List Cell → Option ℕ) (p : Nonogram) (cells : List Cell)
    (before after : FoundGrids) (next : Option ℕ) : Type 0 where
  pub ends : (spent left : ℕ) (rest : List Event) →
      ending p after.grids spent left (events_from_cell pick (lines_of p) cells next rest) ≡
      ending p before.grids spent left
      (guess_at (events pick (lines_of p)) cells (pick cells) ++ rest)
  pub fewer : (rest : List Event) → length (events_from_cell pick (lines_of p) cells next rest)
      ≤ length (guess_at (events pick (lines_of p)) cells (pick cells) ++ rest)
  pub next_cell : IsClosed (lines_of p) cells → IsNextCell pick (lines_of p) cells next
  pub found : AreFound p after

-- A guess was made from which the events `es` follow: the board `old` became `new`, and the
-- solutions found, `before`, became `after`. The search can continue, it ends as it would with `es`
-- and the events that the branches owed on `old`, and it owes no more events than these.
pub record GoesOn
    (pick : List Cell → Option ℕ) (p : Nonogram) (es : List Event) (branches : List Branch)
    (old : TrailedGrid) (before : List PartialGrid)
    (new : TrailedGrid) (after : List PartialGrid) (next : Option ℕ) : Type 0 where
  pub under_way : IsUnderWay pick p branches new next
  pub ends : (spent left : ℕ) → ending p after spent left (owed pick p branches new next) ≡
      ending p before spent left (es ++ owed_by pick p branches old)
  pub fewer : length (owed pick p branches new next) ≤ length (es ++ owed_by pick p branches old)

-- `colour` was guessed at index `place`, and propagated
pub record Guesses
    (pick : List Cell → Option ℕ) (place : ℕ) (colour : Cell)
    (old : WorkspaceState) (before : FoundGrids)
    (new : WorkspaceState) (after : FoundGrids) (next : Option ℕ) : Type 0 where
  pub puzzle : new.puzzle ≡ old.puzzle
  pub clean : IsEmptyMask new.dirty
  pub found : AreFound old.puzzle after
  pub goes_on : (branches : List Branch) →
      AreBranchesOf pick (lines_of old.puzzle) old.board.cells old.board.trail branches →
      GoesOn pick old.puzzle
      (events pick (lines_of old.puzzle) (slice_set old.board.cells place colour)) branches
      old.board before.grids new.board after.grids next

-- The next guess was taken: the cell `next`, if there is one, to be guessed filled, or else the
-- cell of the last branch, to be guessed blank. The events that the search owes begin with that
-- guess.
pub record TakesGuess
    (old : WorkspaceState) (before : List Branch) (next : Option ℕ)
    (new : WorkspaceState) (after : List Branch) (guess : Option (ℕ × Cell)) : Type 0 where
  pub puzzle : new.puzzle ≡ old.puzzle
  pub size : length new.board.cells ≡ new.puzzle.width * new.puzzle.height
  pub dirty : new.dirty ≡ old.dirty
  pub events_are : (pick : List Cell → Option ℕ) →
      AreBranchesOf pick (lines_of old.puzzle) old.board.cells old.board.trail before →
      owed pick old.puzzle before old.board next
      ≡ events_from_guess pick (lines_of old.puzzle) new.board.cells guess
      (owed_by pick old.puzzle after new.board)
  pub work : (pick : List Cell → Option ℕ) → IsUnderWay pick old.puzzle before old.board next →
      AreBranchesOf pick (lines_of old.puzzle) new.board.cells new.board.trail after
  pub ready : (pick : List Cell → Option ℕ) → IsUnderWay pick old.puzzle before old.board next →
      IsNextGuess pick (lines_of old.puzzle) new.board.cells guess
