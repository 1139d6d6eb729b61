-- `Workspace::assign_and_propagate`: the closure of the cells with the assigned one.
use Rattle.solve_core.proofs.WorkspaceSteps.{enqueued-closes}
use Rattle.solve_core.proofs.solving.workspaces.Workspace.assign_and_propagate.Goals as goal

pub returns : goal.returns
returns g c = enqueued-closes _ _ _ _ _ _ c.assign_and_enqueue.ensures c.propagate.ensures
