-- `Workspace::is_inert_on`: the table's inert cells are those of the line.
use Rattle.solve_core.proofs.Names.{arith, sym, ◌∙◌}
use Rattle.bit_sets.proofs.HasLemmas.{true_has}
use Rattle.solve_core.proofs.InertCells.{inert_line}
use Rattle.solve_core.proofs.WorkspaceSteps.{clue-is}
use Rattle.solve_core.proofs.solving.workspaces.Workspace.is_inert_on.Goals as goal

pub returns-clause-inert : goal.returns-clause-inert
returns-clause-inert g c =
    let given = rw (← c.self.view_is) at c.requires in
    let known = c.self.invariant in
    let at = rw (← c.self.view_is) at c.clue_index-clue.ensures in
    let clue = clue-is c.self.inside.deducer c.self.inside.board known.puzzle c.args.axis c.args.i given.i in
    rw (← c.self.view_is) (λ is. inert_line _ c.self.inside.board _ c.args.colour c.args.axis c.args.i c.args.k _ known.board
    (omega (arith, known.puzzle.size.width_from)) given.i given.k given.cell c.line-line.ensures.cells
    (rw (c.is_filled.ensures, at, clue) at c.inert_cells.ensures.inert) (true_has _ _ (sym c.contains.ensures ∙ is)))
