-- `Workspace::propagate`: if the board is alive, no line is dirty, so that it is closed.
use Rattle.solve_core.proofs.Names.{◌≡◌, ◌≤◌, subst, true, WorkspaceState, rules}
use Rattle.solve_core.proofs.WorkspaceSteps.{all-closed}
use Rattle.solve_core.proofs.solving.workspaces.Workspace.propagate.Goals as goal

pub returns-else-not-alive : goal.returns-else-not-alive
returns-else-not-alive g c =
    let most = g.W.BitSet.WIDTH in
    let alive : c.propagate_lines-alive.result ≡ true = search rules in
    let fits = subst (λ (s : WorkspaceState). (s.puzzle.width ≤ most) × (s.puzzle.height ≤ most)) c.self.view_is c.self.invariant.fits in
    rw alive (all-closed most c.args.self.now c.propagate_lines-alive.new.self c.all.result c.all.ensures fits
    (rw alive at c.propagate_lines-alive.ensures))
