-- `Workspace::try_to_fixpoint`: trials leave a board at a fixpoint unchanged if no unknown cell has a refuted colour.
use Rattle.solve_core.proofs.Names.{arith, refl}
use Rattle.solve_core.proofs.WorkspaceTrials.{tries-end}
use Rattle.solve_core.proofs.solving.workspaces.Workspace.try_to_fixpoint.Goals as goal

pub returns-else-least-gt0 : goal.returns-else-least-gt0
returns-else-least-gt0 g c =
    let kept = c.loop-all.invariant in
    let last = c.in-Unchanged.ensures in
    tries-end _ _ _ kept.puzzle (rw kept.puzzle at kept.same) last.step (last.tried c.if-not-all.false (omega arith) refl)
