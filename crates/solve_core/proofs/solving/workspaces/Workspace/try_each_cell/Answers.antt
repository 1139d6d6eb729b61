-- `Workspace::try_each_cell`: the cells before the next one to try are known or have no refuted colour; if there is none, this
-- holds of all cells.
use Rattle.solve_core.proofs.Names.{◌≡◌, ◌≢◌, ◌∙◌, ap, arith, length, refl, sym, Changed, Unchanged, WorkspaceState}
use Rattle.solve_core.specs.steps.Boards.{grid_of_board}
use Rattle.solve_core.proofs.WorkspaceTrials.{tried-more, tried-rest, tries-then}
use Rattle.solve_core.proofs.solving.workspaces.Workspace.try_each_cell.Goals as goal
use Rattle.solve_core.proofs.solving.workspaces.Workspace.try_each_cell.Goals.{in-Unchanged, in-Changed}

not_unchanged : Changed ≢ Unchanged
not_unchanged e = cc

pub loop-place-preserved : goal.loop-place-preserved
loop-place-preserved g c =
    let kept = c.loop-place.invariant in
    let s = c.loop-place.self in
    let ready = kept.step.ready kept.alive in
    let lines = c.lines.ensures.lines ∙ ap (λ (t : WorkspaceState). grid_of_board t.board) c.self.view_is in
    let consistent = ap (λ (t : WorkspaceState). t.consistent) c.self.view_is in
    let wide : s.board.width ≡ s.puzzle.width =
    sym (ap (λ (t : WorkspaceState). t.board.width) c.self.view_is) ∙ ap (λ (t : WorkspaceState). t.puzzle.width) c.self.view_is in
    let place = rw lines at c.in-Some.ensures.found.1 in
    elim c.match-try_cell.branch [
      | in-Unchanged w ↦ (
          let step = w.in-Unchanged.ensures.step in
          record {
            step = rw w.effect-is (tries-then _ _ _ _ _ kept.alive kept.step step);
            alive = rw w.effect-is kept.alive;
            from = rw step.effect_is (omega (arith, place.0));
            tried = λ a e u. rw (step.puzzle, step.effect_is) (tried-more s c.loop-place.from c.in-Some.place ready place.0
                (kept.tried a e (sym w.effect-is ∙ u)) (rw (lines, consistent, wide) at (c.in-Some.ensures.passed a e))
                (rw step.effect_is at (w.in-Unchanged.ensures.tried a refl)));
          })
      | in-Changed w ↦ (
          let step = w.in-Changed.ensures.step in
          let after = step.ready (λ e. cc) in
          let long : length c.try_cell.new.self.board.cells ≡ length s.board.cells =
          (rw step.puzzle at after.fixpoint.worklist.size) ∙ sym ready.fixpoint.worklist.size in
          record {
            step = rw w.effect-is (tries-then _ _ _ _ _ kept.alive kept.step step);
            alive = λ e. cc;
            from = omega (arith, place.0, long);
            tried = λ a e u. absurd (not_unchanged (sym w.effect-is ∙ u));
          })
    ]

pub returns-clause-tried : goal.returns-clause-tried
returns-clause-tried g c = λ a e u.
    let kept = c.loop-place.invariant in
    let s = c.loop-place.self in
    let lines = c.lines.ensures.lines ∙ ap (λ (t : WorkspaceState). grid_of_board t.board) c.self.view_is in
    let consistent = ap (λ (t : WorkspaceState). t.consistent) c.self.view_is in
    let wide : s.board.width ≡ s.puzzle.width =
    sym (ap (λ (t : WorkspaceState). t.board.width) c.self.view_is) ∙ ap (λ (t : WorkspaceState). t.puzzle.width) c.self.view_is in
    rw (← kept.step.puzzle) (tried-rest s c.loop-place.from (kept.step.ready kept.alive) (kept.tried a e u)
    (rw (lines, consistent, wide) at (c.in_default.ensures.passed a e)))
