-- `Workspace::assign_and_enqueue`: only the row and the column of the cell can deduce more, and both are dirty afterwards.
use Rattle.solve_core.proofs.WorkspaceSteps.{cell-enqueued}
use Rattle.solve_core.proofs.solving.workspaces.Workspace.assign_and_enqueue.Goals as goal

pub returns : goal.returns
returns g c =
    let at = rw (← c.self.view_is) at c.column_and_row-x.ensures in
    rw (← c.self.view_is) (cell-enqueued c.self.inside.deducer c.self.inside.board c.assign_cell.new.self c.self.inside.dirty c.set.new.self
    c.set-2.new.self c.self.inside.consistent c.args.place _ _ c.args.colour (rw (← c.self.view_is) at c.requires.fixpoint.worklist)
    at.row at.column at.place c.set.ensures.own c.set.ensures.other c.set-2.ensures.own c.set-2.ensures.other c.assign_cell.ensures.cells
    c.assign_cell.ensures.trail)
