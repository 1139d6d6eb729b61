-- `Workspace::propagate_line`: deducing a line is a step towards the closure, and the line isn't dirty afterwards.
use Rattle.solve_core.proofs.WorkspaceSteps.{propagates-line}
use Rattle.solve_core.proofs.solving.workspaces.Workspace.propagate_line.Goals as goal

pub returns-clause-step : goal.returns-clause-step
returns-clause-step g c = rw (← c.self.view_is) ((propagates-line _ _ _ _ _ _ (rw (← c.self.view_is) at c.requires.worklist)
    (rw (← c.self.view_is) at c.requires.i) c.set.ensures.own c.set.ensures.other c.deduce_and_assign.ensures).0)

pub returns-clause-own : goal.returns-clause-own
returns-clause-own g c = rw (← c.self.view_is) ((propagates-line _ _ _ _ _ _ (rw (← c.self.view_is) at c.requires.worklist)
    (rw (← c.self.view_is) at c.requires.i) c.set.ensures.own c.set.ensures.other c.deduce_and_assign.ensures).1)
