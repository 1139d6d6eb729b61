-- `print_closed_grid`: the answer was printed, or the file's text was refused.
use Rattle.reports.specs.Reports.{lines_text}
use Rattle.program.proofs.PrintingLemmas.{report_printed, refused_of}
use Rattle.program.proofs.performing.print_closed_grid.Goals as goal

pub returns-in_err-report-clause-answer : goal.returns-in_err-report-clause-answer
returns-in_err-report-clause-answer g c =
    refused_of (λ name. lines_text) c.args.path.now c.as_bytes.result.now c.deref.result.now _ _ _ c.as_bytes.ensures.value
    c.in_err-report.ensures.answer
    c.from_residual-in_err-report.ensures.1

pub returns-clause-answer : goal.returns-clause-answer
returns-clause-answer g c =
    report_printed (λ name. lines_text) c.args.path.now c.as_bytes.result.now c.deref.result.now c.in_ok-report.report.items
    c.deref-2.result.now c.print_text.result _ _
    c.as_bytes.ensures.value c.deref-2.ensures.value c.in_ok-report.ensures.answer
    c.print_text.ensures.ok c.print_text.ensures.front c.print_text.ensures.write
