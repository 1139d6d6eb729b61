-- `Workspace::is_inert`: if the row and the column deduce just their own cells, the grid is its own closure.
use Rattle.solve_core.proofs.InertCells.{inert_cell}
use Rattle.solve_core.proofs.solving.workspaces.Workspace.is_inert.Goals as goal

pub returns-then-is_inert_on-clause-inert : goal.returns-then-is_inert_on-clause-inert
returns-then-is_inert_on-clause-inert g c = λ is.
    let at = c.column_and_row-x.ensures in
    inert_cell c.args.self.now c.args.colour c.requires.fixpoint c.args.place _ _ at.place at.row at.column
    (rw (← at.place) at (c.is_inert_on.ensures.inert c.if-is_inert_on.true))
    (rw (c.is_inert_on.ensures.same, ← at.place) at (c.is_inert_on-then-is_inert_on.ensures.inert is))
