-- The grids of a verdict that holds have the puzzle's size.
use Rattle.std.proofs.Common.{ℕ, List, Option}
use Rattle.grid_core.specs.declared.cells.Cell.{Cell}
use Rattle.grid_core.specs.Nonogram.{Nonogram}
use Rattle.solve_core.specs.Verdicts.{Holds}
use Rattle.solve_core.specs.declared.findings.Verdict.{Verdict}
use Rattle.solve_core.specs.declared.findings.Verdict.TheVariants.{Nothing, One, Several, Unsettled}
use Rattle.diagnosis.specs.Diagnoses.{HaveSizeOf}

-- a verdict that holds of `p` has grids of the size of `p`
pub sizes_of_verdict : (pick : List Cell → Option ℕ) (p : Nonogram) (limit : ℕ) (verdict : Verdict) → Holds pick p limit verdict
    → HaveSizeOf p verdict
sizes_of_verdict pick p limit Nothing holds = tt
sizes_of_verdict pick p limit (One found) holds = (holds.0.width, holds.0.height)
sizes_of_verdict pick p limit (Several first second) holds = ((holds.0.width, holds.0.height), (holds.1.width, holds.1.height))
sizes_of_verdict pick p limit (Unsettled found) holds = tt
