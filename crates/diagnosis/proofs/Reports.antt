-- What the findings of a report on a puzzle say of it.
use Rattle.std.proofs.Common.{◌≡◌, ℕ, ◌*◌, Bool, true, false, List, [], ◌∷◌, length, map, Option, Some, None, refl, ap, sym, ◌∙◌, true≢false}
use Rattle.std.specs.List.{list_all}
use Rattle.std.proofs.Math.ListN.{length-map}
use Rattle.std.proofs.lemmas.List.{length-replicate}
use Rattle.std.proofs.lemmas.List.Elements.{All-from_recursion}
use Rattle.grid_core.specs.Cells.{colour, is_filled, is_known}
use Rattle.grid_core.specs.Nonogram.{GridLine, IsNonogram, Nonogram, Solves, cells_at, lines_of}
use Rattle.grid_core.specs.Runs.{runs}
use Rattle.grid_core.specs.declared.cells.Cell.{Cell}
use Rattle.grid_core.specs.declared.cells.Cell.TheVariants.{Blank, Filled, Unknown}
use Rattle.line_core.proofs.DeductionLaws.{length-Extends}
use Rattle.solve_core.proofs.AnswerLaws.{lines_in_range, verdict-Holds}
use Rattle.solve_core.proofs.ClosureLaws.{closure-IsLeastClosed, full-meets}
use Rattle.solve_core.proofs.PickLaws.{picked-IsPick}
use Rattle.solve_core.specs.Picks.{picked}
use Rattle.solve_core.specs.Report.{findings_of, grade_by, grade_of, grid_of, is_decided, line_closure, trial_closure, unknown_grid}
use Rattle.solve_core.specs.Verdicts.{Holds}
use Rattle.solve_core.specs.declared.findings.Findings.{Findings}
use Rattle.solve_core.specs.declared.findings.Grade.TheVariants.{Lines}
use Rattle.solve_core.specs.declared.findings.Verdict.TheVariants.{Nothing}
use Rattle.solve_core.specs.declared.picks.Pick.{Pick}
use Rattle.diagnosis.specs.Diagnoses.{HaveSizeOf, IsReportOn}
use Rattle.diagnosis.proofs.VerdictSizes.{sizes_of_verdict}

-- the findings of a report are those of a report
pub report_on : (pick : Pick) (p : Nonogram) (limit : ℕ) (findings : Findings) → findings ≡ findings_of pick p limit → IsReportOn p findings
report_on pick p limit findings e = record { pick = pick; limit = limit; is = e }

holds_of : (p : Nonogram) → IsNonogram p → (findings : Findings) (r : IsReportOn p findings) →
    Holds (picked r.pick p.width) p r.limit findings.verdict
holds_of p is findings r =
    rw r.is (verdict-Holds (picked r.pick p.width) (picked-IsPick r.pick p.width) p is r.limit)

-- the grids of a report have the size of the puzzle
pub report-sizes : (p : Nonogram) → IsNonogram p → (findings : Findings) → IsReportOn p findings → HaveSizeOf p findings.verdict
report-sizes p is findings r = sizes_of_verdict (picked r.pick p.width) p r.limit findings.verdict (holds_of p is findings r)

decided_by : (lines trials : Bool) → grade_by lines trials ≡ Lines → lines ≡ true
decided_by true trials e = refl
decided_by false true e = absurd (cc)
decided_by false false e = absurd (cc)

colour-filled : (cells : List Cell) → list_all is_known cells ≡ true → map colour (map is_filled cells) ≡ cells
colour-filled [] h = refl
colour-filled (Unknown ∷ cells) h = absurd (true≢false (sym h))
colour-filled (Filled ∷ cells) h = ap (λ (r : List Cell). Filled ∷ r) (colour-filled cells h)
colour-filled (Blank ∷ cells) h = ap (λ (r : List Cell). Blank ∷ r) (colour-filled cells h)

-- a closure whose cells are all known solves the puzzle
closure-solves : (p : Nonogram) → IsNonogram p → (cells : List Cell) → line_closure p ≡ Some cells → list_all is_known cells ≡ true →
    Solves p (grid_of p cells)
closure-solves p is cells e known =
    let least = closure-IsLeastClosed (lines_of p) (unknown_grid p) in
    let above = rw e at least.above in
    let size : length cells ≡ p.width * p.height =
    sym (length-Extends (unknown_grid p) cells above) ∙ length-replicate (p.width * p.height) Unknown in
    let full = map is_filled cells in
    let long : length full ≡ p.width * p.height = length-map cells is_filled ∙ size in
    let closed = rw (← colour-filled cells known) at (least.closed cells e) in
    let met = full-meets (lines_of p) full (map colour full) (rw long (lines_in_range p is)) closed in
    record {
      width = refl;
      height = refl;
      full = known;
      meets = record {
        size = long;
        clues = All-from_recursion (λ (line : GridLine). runs (cells_at false full line.indices) ≡ line.clue) (lines_of p) met;
      };
    }

-- if a report says that line logic refutes a puzzle, its closure is dead
pub report-dead : (p : Nonogram) → IsNonogram p → (findings : Findings) → IsReportOn p findings → findings.verdict ≡ Nothing →
    findings.grade ≡ Lines → line_closure p ≡ None
report-dead p is findings r nothing lines = by (line_closure p) refl
  where
    by : (o : Option (List Cell)) → line_closure p ≡ o → line_closure p ≡ None
    by None e = e
    by (Some cells) e =
        let graded : grade_of p ≡ Lines = sym (ap (λ (f : Findings). f.grade) r.is) ∙ lines in
        let known = rw e at (decided_by (is_decided (line_closure p)) (is_decided (trial_closure p)) graded) in
        let none = rw nothing at (holds_of p is findings r) in
        absurd (none (grid_of p cells) (closure-solves p is cells e known))
