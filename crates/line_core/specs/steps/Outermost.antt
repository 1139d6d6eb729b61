-- The placing that is outermost in a direction: the leftmost or the rightmost one.
use Rattle.std.specs.Prelude.{◌≡◌, ◌≤◌, ◌+◌, ◌-◌, ℕ, List, Option, slice_index_or}
use Rattle.grid_core.specs.declared.cells.Cell.{Cell}
use Rattle.line_core.specs.declared.starts.Direction.{Direction}
use Rattle.line_core.specs.declared.starts.Direction.TheVariants.{Left, Right}
use Rattle.line_core.specs.RunStarts.{leftmost, rightmost}
use Rattle.line_core.specs.steps.Feasibility.{IsFeasibleEnd}

-- the starts of the placing that is outermost in a direction
abbrev pub outermost : Direction → List Cell → List ℕ → Option (List ℕ)
outermost Left line clue = leftmost line clue
outermost Right line clue = rightmost line clue

-- `i` is at least as far in a direction as `other`
abbrev pub IsAsFar : Direction → ℕ → ℕ → Type 0
IsAsFar Left i other = i ≤ other
IsAsFar Right i other = other ≤ i

-- run `j`, started at `start`, has a feasible end that is at least as far in a direction as all its
-- feasible ends
pub record IsOuterStart
    (direction : Direction) (line : List Cell) (clue : List ℕ) (j start : ℕ) : Type 0 where
  pub end : ℕ
  pub feasible : IsFeasibleEnd line clue j end
  pub start_is : start ≡ end + 1 - slice_index_or clue j 0
  pub outermost_so : (e : ℕ) → IsFeasibleEnd line clue j e → IsAsFar direction end e
