-- `AnyWorkspace::report`: in each set width the workspace's report is the defined one.
use Rattle.solve_core.proofs.any_workspaces.AnyWorkspace.report.Goals as goal
use Rattle.solve_core.proofs.any_workspaces.AnyWorkspace.report.Goals.{in-Narrow, in-Middle, in-Wide}

pub returns : goal.returns
returns c = elim c.match-self.branch [
  | in-Narrow w ↦ rw (← c.self.view_is, w.in-Narrow.is, w.result-is) w.report.ensures
  | in-Middle w ↦ rw (← c.self.view_is, w.in-Middle.is, w.result-is) w.report-in-Middle.ensures
  | in-Wide w ↦ rw (← c.self.view_is, w.in-Wide.is, w.result-is) w.report-in-Wide.ensures
]
