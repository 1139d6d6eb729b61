-- `AnyWorkspace::extensions`: in each set width the workspace finds the defined solutions.
use Rattle.solve_core.proofs.any_workspaces.AnyWorkspace.extensions.Goals as goal
use Rattle.solve_core.proofs.any_workspaces.AnyWorkspace.extensions.Goals.{in-Narrow, in-Middle, in-Wide}

pub returns-clause-extensions : goal.returns-clause-extensions
returns-clause-extensions c = elim c.match-self.branch [
  | in-Narrow w ↦ rw (← c.self.view_is, w.in-Narrow.is, w.result-is) w.extensions.ensures.extensions
  | in-Middle w ↦ rw (← c.self.view_is, w.in-Middle.is, w.result-is) w.extensions-in-Middle.ensures.extensions
  | in-Wide w ↦ rw (← c.self.view_is, w.in-Wide.is, w.result-is) w.extensions-in-Wide.ensures.extensions
]
