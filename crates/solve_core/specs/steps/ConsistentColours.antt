-- The record of consistent colours: those of a grid's cells that are known not to be refuted.
use Rattle.std.specs.Prelude.{◌≡◌, ℕ, ◌/◌, ◌%◌, ◌<◌, ◌≤◌, false, List, Option, Some, None, slice_index_or}
use Rattle.grid_core.specs.declared.cells.Cell.{Cell}
use Rattle.grid_core.specs.declared.cells.Cell.TheVariants.{Filled, Blank}
use Rattle.grid_core.specs.Lines.{IsUnknownCell}
use Rattle.grid_core.specs.Nonogram.{Nonogram, lines_of}
use Rattle.bit_sets.specs.Masks.{Has}
use Rattle.solve_core.specs.Trials.{is_refuted}
use Rattle.solve_core.specs.steps.Trails.{CanAssign}
use Rattle.solve_core.specs.steps.ColourMasks.{ColourMasks, mask_of, no_colours}

-- `colour` is recorded as consistent at column `x` of row `y`
abbrev pub IsRecorded : List ColourMasks → ℕ → ℕ → Cell → Type 0
IsRecorded rows x y colour = Has (mask_of colour (slice_index_or rows y no_colours)) x

-- both colours are recorded as consistent at column `x` of row `y`
abbrev pub AreBothRecorded : List ColourMasks → ℕ → ℕ → Type 0
AreBothRecorded rows x y = IsRecorded rows x y Filled × IsRecorded rows x y Blank

-- the record is correct: no colour that is recorded at an unknown cell is refuted
pub record AreConsistent (p : Nonogram) (rows : List ColourMasks) (cells : List Cell) : Type 0 where
  pub each : (k : ℕ) (colour : Cell) → CanAssign cells k colour →
      IsRecorded rows (k % p.width) (k / p.width) colour →
      is_refuted (lines_of p) cells k colour ≡ false

-- both colours are recorded at each unknown cell from index `from` on, and before `place` if it is
-- given
abbrev pub AreRecordedFrom : List ColourMasks → ℕ → List Cell → ℕ → Option ℕ → Type 0
AreRecordedFrom rows width cells from None =
    (k : ℕ) → from ≤ k → IsUnknownCell cells k → AreBothRecorded rows (k % width) (k / width)
AreRecordedFrom rows width cells from (Some place) =
    (k : ℕ) → from ≤ k → k < place → IsUnknownCell cells k →
    AreBothRecorded rows (k % width) (k / width)
