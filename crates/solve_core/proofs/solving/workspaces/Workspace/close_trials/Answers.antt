-- `Workspace::close_trials`: trials of the board and of its closure yield the same grid, and are dead if the closure is.
use Rattle.solve_core.proofs.WorkspaceTrials.{closes-tried, dead-tried}
use Rattle.solve_core.proofs.solving.workspaces.Workspace.close_trials.Goals as goal

pub returns-then-close_lines : goal.returns-then-close_lines
returns-then-close_lines g c = closes-tried _ _ _ _ c.if-close_lines.ensures c.close_from_fixpoint.ensures

pub returns-else-close_lines : goal.returns-else-close_lines
returns-else-close_lines g c = rw c.if-close_lines.false (dead-tried _ _ c.if-close_lines.ensures)
