-- The law `final_report_stays`: a greater limit doesn't change a search that was not cut short, nor its report.
use Rattle.solve_core.proofs.ReportLaws.{report-greater}
use Rattle.solve_core.proofs.laws.final_report_stays.Goals as goal

pub returns : goal.returns
returns c = report-greater
