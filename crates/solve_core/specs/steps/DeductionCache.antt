-- Deductions of lines by their clues, and the cache that keeps them.
use Rattle.std.specs.Prelude.{◌≡◌, ◌⊎◌, ℕ, List, [], Option, All, slice_index_or, true}
use Rattle.std.specs.List.{AllByRecursion, Contains}
use Rattle.grid_core.specs.declared.cells.Cell.{Cell}
use Rattle.grid_core.specs.Clues.{is_clue}
use Rattle.line_core.specs.Deduction.{deduced}
use Rattle.line_core.specs.Lookahead.{Table}
use Rattle.solve_core.specs.steps.LookaheadTables.{AreTablesOf}

-- a cached deduction: the cells of a line, the index of its clue, and the deduced line
pub record CachedLine : Type 0 where
  pub clue : ℕ
  pub line : List Cell
  pub answer : Option (List Cell)

-- `d` is correct: its answer is the deduced line
abbrev pub IsDeductionOf : List (List ℕ) → CachedLine → Type 0
IsDeductionOf clues d = d.answer ≡ deduced d.line (slice_index_or clues d.clue [])

-- each clue fits into sets of `width` indices, and the cached deductions and the lookahead tables
-- are correct
pub record AreDeductionsOf
    (width : ℕ) (clues : List (List ℕ)) (cached : List CachedLine) (tables : List Table)
    : Type 0 where
  pub fit : AllByRecursion (λ clue. is_clue width clue ≡ true) clues
  pub right : All (IsDeductionOf clues) cached
  pub tables_are : AreTablesOf clues tables

-- `d` is the deduction `new`, or one of the list `old`
abbrev pub IsInsertedInto : List CachedLine → CachedLine → CachedLine → Type 0
IsInsertedInto old new d = (d ≡ new) ⊎ Contains old d
