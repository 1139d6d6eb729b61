-- `Workspace::try_cell`: if a colour is refuted, the other one is assigned.
use Rattle.solve_core.proofs.Names.{lines_of}
use Rattle.solve_core.proofs.TrialSteps.{blank_below, filled_below}
use Rattle.solve_core.proofs.solving.workspaces.Workspace.try_cell.Goals as goal

pub assign_other_colour-requires-clause-below : goal.assign_other_colour-requires-clause-below
assign_other_colour-requires-clause-below g c =
    let s = c.args.self.now in
    let did = c.is_refuted.ensures in
    rw (did.board.board, did.board.puzzle) (blank_below (lines_of s.puzzle) s.board.cells c.args.place c.requires.unknown.0
    (did.refuted c.if-is_refuted.true))

pub assign_other_colour-requires-then-is_refuted-2-clause-below : goal.assign_other_colour-requires-then-is_refuted-2-clause-below
assign_other_colour-requires-then-is_refuted-2-clause-below g c =
    let s = c.args.self.now in
    let first = c.is_refuted.ensures.board in
    let did = c.is_refuted-2.ensures in
    rw (did.board.board, did.board.puzzle, first.board, first.puzzle) (filled_below (lines_of s.puzzle) s.board.cells c.args.place
    c.requires.unknown.0 (rw (first.board, first.puzzle) at (did.refuted c.if-is_refuted-2.true)))
