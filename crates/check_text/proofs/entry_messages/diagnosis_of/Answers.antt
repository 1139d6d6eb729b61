-- `diagnosis_of`: the findings are those of a report on the puzzle.
use Rattle.std.proofs.Common.{◌≡◌, ◌∙◌, ℕ, Ok, Result}
use Rattle.grid_core.specs.Nonogram.{Nonogram}
use Rattle.grid_core.specs.declared.memory.NoMemory.{NoMemory}
use Rattle.solve_core.specs.Report.{findings_of}
use Rattle.solve_core.specs.declared.findings.Findings.{Findings}
use Rattle.solve_core.specs.declared.picks.Pick.{Pick}
use Rattle.diagnosis.specs.Diagnoses.{IsReportOn}
use Rattle.diagnosis.proofs.Reports.{report_on}
use Rattle.check_text.proofs.entry_messages.diagnosis_of.Goals as goal

-- an outcome that is `Ok` of two values has one value
same_findings : (outcome : Result Findings NoMemory) (first second : Findings) → outcome ≡ Ok first → outcome ≡ Ok second → first ≡ second
same_findings outcome first second e f = (cc)

-- findings on `q`, which is another name of `p`, are findings on `p`
renamed : (pick : Pick) (p q : Nonogram) (limit : ℕ) (outcome : Result Findings NoMemory) (found known : Findings) → p ≡ q
    → outcome ≡ Ok known → outcome ≡ Ok found → known ≡ findings_of pick q limit → IsReportOn p found
renamed pick p q limit outcome found known e f g h =
    report_on pick p limit found (rw e (same_findings outcome found known g f ∙ h))

pub diagnose-requires : goal.diagnose-requires
diagnose-requires c =
    renamed _ _ _ _ _ _ _ c.puzzle.ensures c.in_ok-outcome.ensures.value c.args.graded.now.found_is c.in_ok-outcome.ensures.report
