-- Nonograms, their lines, and which grids solve them.
use Rattle.std.specs.Prelude.{◌≡◌, ℕ, zero, suc, ◌+◌, ◌*◌, List, [], ◌∷◌, ◌++◌, map, length, All, Bool, true, false, Option, Some, None, ◌==◌, slice_index_or, Vec}
use Rattle.std.specs.declared.alloc.Global.{Global}
use Rattle.std.specs.List.{enumerate_from, list_all, AllByRecursion}
use Rattle.grid_core.specs.declared.limits.TheConstants.{MAX_SIDE}
use Rattle.grid_core.specs.declared.axes.Axis.{Axis}
use Rattle.grid_core.specs.declared.axes.Axis.TheVariants.{Rows, Columns}
use Rattle.grid_core.specs.Clues.{is_clue}
use Rattle.grid_core.specs.Description.{Description, IsDescription, no_texts}
use Rattle.grid_core.specs.PartialGrid.{PartialGrid, IsSizeWithin}
use Rattle.grid_core.specs.Cells.{is_known, is_filled}
use Rattle.grid_core.specs.Runs.{runs}

-- a nonogram: its width and height in cells, the clue of each row, from the top, and of each
-- column, from the left, texts, and perhaps a goal, whose values are in row order
pub record Nonogram : Type 0 where
  pub width : ℕ
  pub height : ℕ
  pub rows : List (List ℕ)
  pub columns : List (List ℕ)
  pub texts : Description
  pub goal : Option (List Bool)

-- the values of a goal, if there is one
abbrev pub bools_of : Option (Vec Bool Global) → Option (List Bool)
bools_of None = None
bools_of (Some v) = Some v.items

-- there is one clue for each row and each column
abbrev pub HasClueForEachLine : ℕ → ℕ → List (List ℕ) → List (List ℕ) → Type 0
HasClueForEachLine width height rows columns = (length rows ≡ height) × (length columns ≡ width)

-- whether the goal, if there is one, has `count` values
abbrev pub is_goal : ℕ → Option (List Bool) → Bool
is_goal count None = true
is_goal count (Some values) = length values == count

-- the nonogram of this size and these clues, without texts and goal
abbrev pub plain : ℕ → ℕ → List (List ℕ) → List (List ℕ) → Nonogram
plain width height rows columns = record {
  width = width;
  height = height;
  rows = rows;
  columns = columns;
  texts = no_texts;
  goal = None;
}

-- `p` is a puzzle whose sides and clue numbers are at most `limit`: its width and height are in
-- range, each line has a clue, the clues and the texts are admissible, and a goal has a value for
-- each cell
pub record IsNonogramWithin (limit : ℕ) (p : Nonogram) : Type 0 where
  pub size : IsSizeWithin limit p.width p.height
  pub clues : HasClueForEachLine p.width p.height p.rows p.columns
  pub rows : AllByRecursion (λ clue. is_clue limit clue ≡ true) p.rows
  pub columns : AllByRecursion (λ clue. is_clue limit clue ≡ true) p.columns
  pub texts : IsDescription p.texts
  pub goal : is_goal (p.width * p.height) p.goal ≡ true

-- `p` is a puzzle within the limits; the invariant of the type `Puzzle`
abbrev pub IsNonogram : Nonogram → Type 0
IsNonogram p = IsNonogramWithin MAX_SIDE p

-- a line of a grid: the indices of its cells in row order, and its clue
pub record GridLine : Type 0 where
  pub indices : List ℕ
  pub clue : List ℕ

-- the indices `first`, `first + step`, `first + 2 * step` and so on; the last argument is their
-- number
abbrev pub strided_indices : ℕ → ℕ → ℕ → List ℕ
strided_indices first step zero = []
strided_indices first step (suc n) = first ∷ strided_indices (first + step) step n

-- the axis whose lines cross those of the given one
abbrev pub crossing : Axis → Axis
crossing Rows = Columns
crossing Columns = Rows

-- the indices, in row order, of the cells of line `i` of an axis: consecutive ones for a row, and
-- ones that are `width` apart for a column
abbrev pub line_indices : Axis → ℕ → ℕ → ℕ → List ℕ
line_indices Rows width height i = strided_indices (i * width) 1 width
line_indices Columns width height i = strided_indices i width height

-- the clues of the lines of an axis
abbrev pub clues_on : Axis → Nonogram → List (List ℕ)
clues_on Rows p = p.rows
clues_on Columns p = p.columns

-- the line of an axis whose number and clue are the pair `numbered`
abbrev pub numbered_line : Axis → Nonogram → ℕ × List ℕ → GridLine
numbered_line axis p numbered =
    record { indices = line_indices axis p.width p.height numbered.0; clue = numbered.1 }

-- all lines of `p`: the rows, and then the columns
abbrev pub lines_of : Nonogram → List GridLine
lines_of p = map (numbered_line Rows p) (enumerate_from 0 p.rows)
    ++ map (numbered_line Columns p) (enumerate_from 0 p.columns)

-- line `i` of an axis of `p`
abbrev pub line_on : Axis → Nonogram → ℕ → GridLine
line_on axis p i = numbered_line axis p (i, slice_index_or (clues_on axis p) i [])

-- the elements of `cells` at the indices `places`, with `d` for each index that is out of range
abbrev pub cells_at : {X : Type 0} → X → List X → List ℕ → List X
cells_at d cells indices = map (λ k. slice_index_or cells k d) indices

-- the runs of the full grid `full` along `line` are the line's clue
abbrev pub MeetsLine : List Bool → GridLine → Type 0
MeetsLine full line = runs (cells_at false full line.indices) ≡ line.clue

-- the full grid `full` has as many cells as `p`, and meets the clue of each line
pub record Meets (p : Nonogram) (full : List Bool) : Type 0 where
  pub size : length full ≡ p.width * p.height
  pub clues : All (MeetsLine full) (lines_of p)

-- `g` solves `p`: it has the width and height of `p`, is full, and meets the clue of each line
pub record Solves (p : Nonogram) (g : PartialGrid) : Type 0 where
  pub width : g.width ≡ p.width
  pub height : g.height ≡ p.height
  pub full : list_all is_known g.cells ≡ true
  pub meets : Meets p (map is_filled g.cells)

-- the values are present, and they meet the clues of all lines of `p`
abbrev pub GivenMeets : Nonogram → Option (List Bool) → Type 0
GivenMeets p None = ⊥
GivenMeets p (Some values) = Meets p values

-- `p` has a goal, and it meets the clues of all lines
abbrev pub GoalMeets : Nonogram → Type 0
GoalMeets p = GivenMeets p p.goal
