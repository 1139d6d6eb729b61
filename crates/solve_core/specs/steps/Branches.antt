-- The branches of a search: the filled guesses whose cells are still to be guessed blank.
use Rattle.std.specs.Prelude.{◌≡◌, ℕ, ◌+◌, ◌<◌, List, [], ◌∷◌, ◌++◌, length, drop, slice_set, slice_index_or, false, Option, Some, None}
use Rattle.std.specs.List.{AllByRecursion}
use Rattle.grid_core.specs.declared.cells.Cell.{Cell}
use Rattle.grid_core.specs.declared.cells.Cell.TheVariants.{Unknown, Filled, Blank}
use Rattle.grid_core.specs.Cells.{is_unknown}
use Rattle.grid_core.specs.Nonogram.{GridLine}
use Rattle.solve_core.specs.declared.searching.branches.Branch.{Branch}
use Rattle.solve_core.specs.Closure.{round}
use Rattle.solve_core.specs.steps.Trails.{CellEntry, undone}
use Rattle.solve_core.specs.Search.{Event, Guess, events}

-- the cells after undoing to the checkpoint `checkpoint`
abbrev pub cells_before : List Cell → List CellEntry → ℕ → List Cell
cells_before cells trail checkpoint = undone cells (drop checkpoint trail)

-- all cells before index `start` are known
abbrev pub AreKnownBefore : ℕ → List Cell → Type 0
AreKnownBefore start cells =
    (k : ℕ) → k < start → is_unknown (slice_index_or cells k Unknown) ≡ false

-- the cells are line-closed: a round leaves them unchanged
abbrev pub IsClosed : List GridLine → List Cell → Type 0
IsClosed lines cells = round lines cells ≡ Some cells

-- the cells are line-closed, and `k` is the cell that is guessed next
abbrev pub IsNext : (List Cell → Option ℕ) → List GridLine → List Cell → ℕ → Type 0
IsNext pick lines cells k = (pick cells ≡ Some k) × IsClosed lines cells

-- if a cell to guess is given, the cells are line-closed, and it is the one that is guessed next
abbrev pub IsNextCell : (List Cell → Option ℕ) → List GridLine → List Cell → Option ℕ → Type 0
IsNextCell pick lines cells None = Unit {0}
IsNextCell pick lines cells (Some k) = IsNext pick lines cells k

-- at the branch's checkpoint its cell was the one to be guessed next
abbrev pub IsBranch :
    (List Cell → Option ℕ) → List GridLine → List Cell → List CellEntry → Branch → Type 0
IsBranch pick lines cells trail branch =
    IsNext pick lines (cells_before cells trail branch.checkpoint) branch.place

-- each branch has a later checkpoint than those before it
abbrev pub AreInOrder : List Branch → Type 0
AreInOrder [] = Unit {0}
AreInOrder (branch ∷ branches) =
    AllByRecursion (λ (later : Branch). branch.checkpoint < later.checkpoint) branches
    × AreInOrder branches

-- the checkpoint of each branch is below `limit`
abbrev pub AreBefore : ℕ → List Branch → Type 0
AreBefore limit branches = AllByRecursion (λ (branch : Branch). branch.checkpoint < limit) branches

-- The branches of a search: their checkpoints are on the trail and in order, and each one's cell
-- was the one to be guessed next at its checkpoint.
pub record AreBranchesOf
    (pick : List Cell → Option ℕ) (lines : List GridLine) (cells : List Cell)
    (trail : List CellEntry) (branches : List Branch) : Type 0 where
  pub before : AreBefore (length trail + 1) branches
  pub order : AreInOrder branches
  pub made : AllByRecursion (IsBranch pick lines cells trail) branches

-- if there is a cell to guess, some cell was assigned since each branch was made
abbrev pub AreOlder : List CellEntry → List Branch → Option ℕ → Type 0
AreOlder trail branches None = Unit {0}
AreOlder trail branches (Some k) = AreBefore (length trail) branches

-- the events that the branches still owe, from the last branch to the first: each undoes to its
-- checkpoint and guesses its cell blank
abbrev pub pending :
    (List Cell → Option ℕ) → List GridLine → List Cell → List CellEntry → List Branch → List Event
pending pick lines cells trail [] = []
pending pick lines cells trail (branch ∷ branches) =
    pending pick lines cells trail branches ++
    (Guess ∷
    events pick lines (slice_set (cells_before cells trail branch.checkpoint) branch.place Blank))

-- the events still to come: the two guesses of the cell to guess, if there is one, and then `rest`
abbrev pub events_from_cell :
    (List Cell → Option ℕ) → List GridLine → List Cell → Option ℕ → List Event → List Event
events_from_cell pick lines cells None rest = rest
events_from_cell pick lines cells (Some k) rest =
    Guess ∷ (events pick lines (slice_set cells k Filled)
    ++ (Guess ∷ (events pick lines (slice_set cells k Blank) ++ rest)))

-- the events still to come if `guess` is made at once; none if there is no guess left
abbrev pub events_from_guess :
    (List Cell → Option ℕ) → List GridLine → List Cell → Option (ℕ × Cell) → List Event → List Event
events_from_guess pick lines cells None rest = []
events_from_guess pick lines cells (Some guess) rest =
    Guess ∷ (events pick lines (slice_set cells guess.0 guess.1) ++ rest)

-- if there is a guess, its cell is the one to be guessed next
abbrev pub IsNextGuess :
    (List Cell → Option ℕ) → List GridLine → List Cell → Option (ℕ × Cell) → Type 0
IsNextGuess pick lines cells None = Unit {0}
IsNextGuess pick lines cells (Some guess) = IsNext pick lines cells guess.0
