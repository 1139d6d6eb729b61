-- `Workspace::is_refuted`: a recorded colour isn't refuted.
use Rattle.solve_core.proofs.Names.{sym}
use Rattle.solve_core.proofs.WorkspaceTrials.{recorded-at}
use Rattle.solve_core.proofs.solving.workspaces.Workspace.is_refuted.Goals as goal

pub returns-then-contains-clause-all : goal.returns-then-contains-clause-all
returns-then-contains-clause-all g c = λ all.
    let at = rw (← c.self.view_is) at c.column_and_row-x.ensures in
    let given = rw (← c.self.view_is) at c.requires in
    rw (← c.self.view_is) (sym (given.ready.consistent.each c.args.place c.args.colour given.cell
    (recorded-at c.self.inside.consistent _ c.args.place _ _ c.args.colour at.column at.place
    (rw c.from-y.ensures at (c.contains.ensures.0 c.if-contains.true)))))
