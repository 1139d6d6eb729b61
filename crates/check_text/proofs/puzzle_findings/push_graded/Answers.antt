-- `push_graded`: its findings are those of a report on its puzzle.
use Rattle.std.proofs.Common.{◌≡◌, ℕ}
use Rattle.grid_core.specs.Nonogram.{Nonogram}
use Rattle.solve_core.specs.Report.{findings_of}
use Rattle.solve_core.specs.declared.findings.Findings.{Findings}
use Rattle.solve_core.specs.declared.picks.Pick.{Pick}
use Rattle.diagnosis.specs.Diagnoses.{IsReportOn}
use Rattle.diagnosis.proofs.Reports.{report_on}
use Rattle.check_text.proofs.puzzle_findings.push_graded.Goals as goal

-- findings on `q`, which is another name of `p`, are findings on `p`
renamed : (pick : Pick) (p q : Nonogram) (limit : ℕ) (found : Findings) → p ≡ q → found ≡ findings_of pick q limit → IsReportOn p found
renamed pick p q limit found e f = report_on pick p limit found (rw e f)

pub diagnose-requires : goal.diagnose-requires
diagnose-requires c = renamed _ _ _ _ _ c.puzzle-puzzle.ensures c.in_ok-findings.ensures.report
