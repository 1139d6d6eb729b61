-- The state of a puzzle that is being solved.
use Rattle.std.specs.Prelude.{◌≡◌, ℕ, ◌+◌, ◌≤◌, List, drop, length, take}
use Rattle.grid_core.specs.declared.axes.Axis.{Axis}
use Rattle.grid_core.specs.declared.axes.Axis.TheVariants.{Rows, Columns}
use Rattle.grid_core.specs.Nonogram.{IsNonogram, Nonogram, plain}
use Rattle.solve_core.specs.steps.Boards.{IsBoardOf, unknown_board}
use Rattle.solve_core.specs.steps.ColourMasks.{ColourMasks}
use Rattle.solve_core.specs.steps.LineMasks.{LineMasks, IsEmptyMask}
use Rattle.solve_core.specs.steps.Trails.{IsTrailed, TrailedGrid}
use Rattle.solve_core.specs.steps.Worklist.{IsWorklist}

-- a puzzle without its texts and its goal, the board on which it is solved, the dirty lines, and
-- for each row the colours that are recorded as consistent
pub record WorkspaceState : Type 0 where
  pub puzzle : Nonogram
  pub board : TrailedGrid
  pub dirty : LineMasks
  pub consistent : List ColourMasks

-- the puzzle without its texts and its goal
abbrev pub clues_only : Nonogram → Nonogram
clues_only p = plain p.width p.height p.rows p.columns

-- the index of the clue of line `i` of an axis: the rows come before the columns
abbrev pub clue_index : Axis → ℕ → ℕ → ℕ
clue_index Rows height i = i
clue_index Columns height i = height + i

-- the puzzle of the board's size with these clues
abbrev pub puzzle_of : List (List ℕ) → TrailedGrid → Nonogram
puzzle_of clues board =
    plain board.width board.height (take board.height clues) (drop board.height clues)

-- the state with these clues
abbrev pub state_of : List (List ℕ) → TrailedGrid → LineMasks → List ColourMasks → WorkspaceState
state_of clues board dirty consistent =
    record {
      puzzle = puzzle_of clues board;
      board = board;
      dirty = dirty;
      consistent = consistent;
    }

-- what is always true of a workspace with sets of `most` indices
pub record IsWorkspace (most : ℕ) (s : WorkspaceState) : Type 0 where
  pub puzzle : IsNonogram s.puzzle
  pub fits : (s.puzzle.width ≤ most) × (s.puzzle.height ≤ most)
  pub board : IsBoardOf s.puzzle s.board
  pub rows : length s.consistent ≡ s.puzzle.height

-- the state is one for the puzzle `p`, on an unknown board
pub record IsPreparedFor (p : Nonogram) (s : WorkspaceState) : Type 0 where
  pub nonogram : IsNonogram p
  pub puzzle : s.puzzle ≡ clues_only p
  pub board : s.board ≡ unknown_board p.width p.height

-- each line that isn't dirty deduces just its own cells
abbrev pub HasWorklist : WorkspaceState → Type 0
HasWorklist s = IsWorklist s.puzzle s.dirty s.board.cells

-- the state is at a fixpoint: no line is dirty, and each deduces just its own cells
pub record IsAtFixpoint (s : WorkspaceState) : Type 0 where
  pub worklist : HasWorklist s
  pub clean : IsEmptyMask s.dirty

-- `new` is the state `old` after assignments, which its trail can undo
pub record IsLater (old new : WorkspaceState) : Type 0 where
  pub puzzle : new.puzzle ≡ old.puzzle
  pub trail : IsTrailed old.board new.board
  pub consistent : new.consistent ≡ old.consistent
