-- Lines whose clue is a single run.
use Rattle.std.specs.Prelude.{ℕ, ◌+◌, ◌<◌, ◌≤◌, true, false, List, length}
use Rattle.grid_core.specs.declared.cells.Cell.{Cell}
use Rattle.bit_sets.specs.Masks.{AllFrom}
use Rattle.line_core.specs.steps.Feasibility.{MayBe}

-- a run of `number` cells can start at `s`, with every other cell of the line blank
pub record IsSingleRunStart (line : List Cell) (number s : ℕ) : Type 0 where
  pub fit : AllFrom (MayBe line true) number s
  pub blanks : (i : ℕ) → i < length line → (s ≤ i → i < s + number → ⊥) → MayBe line false i
