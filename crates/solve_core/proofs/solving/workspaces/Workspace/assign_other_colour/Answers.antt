-- `Workspace::assign_other_colour`: assigning the colour that is left is a step towards the grid closed under trials.
use Rattle.solve_core.proofs.Names.{state_of}
use Rattle.solve_core.proofs.WorkspaceTrials.{assigns-other, dead-other}
use Rattle.solve_core.proofs.solving.workspaces.Workspace.assign_other_colour.Goals as goal

pub returns-then-not-assign_and_propagate-clause-step : goal.returns-then-not-assign_and_propagate-clause-step
returns-then-not-assign_and_propagate-clause-step g c =
    dead-other _ _ _ _ c.requires.can.cell c.requires.below c.if-not-assign_and_propagate.ensures

pub returns-clause-step : goal.returns-clause-step
returns-clause-step g c =
    let b = c.self.inside in
    assigns-other c.args.self.now (state_of b.deducer b.board b.dirty b.consistent) c.args.place c.args.colour c.postpone.new.self
    c.requires.can.cell c.requires.below (rw (← c.self.view_is) at c.if-not-assign_and_propagate.ensures)
    (c.postpone.ensures.consistent _ _)
