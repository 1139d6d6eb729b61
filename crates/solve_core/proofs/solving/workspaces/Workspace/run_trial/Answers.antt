-- `Workspace::run_trial`: a board that is alive after the trial is line-closed and extends the old one, so its colours are
-- consistent; afterwards the assignments are undone.
use Rattle.solve_core.proofs.Names.{◌∙◌, ap, length, set, sym, lines_of, state_of, refl, AreConsistent, Nonogram, WorkspaceState}
use Rattle.solve_core.proofs.ClosureLaws.{closure-IsLeastClosed}
use Rattle.solve_core.proofs.TrialSteps.{settled-extends}
use Rattle.solve_core.proofs.WorkspaceTrials.{leaves-board, undoes, workspace-undone}
use Rattle.solve_core.proofs.solving.workspaces.Workspace.run_trial.Goals as goal
use Rattle.solve_core.proofs.solving.workspaces.Workspace.run_trial.Goals.{then-alive, else-alive}

pub invariant_of-self : goal.invariant_of-self
invariant_of-self g c = rw c.undo_to.ensures (elim c.if-alive.branch [
  | then-alive w ↦ rw w.self-inside-is (workspace-undone _ _ _ _ _ _ _ c.self-2.invariant w.add_rows.ensures.rows)
  | else-alive w ↦ rw w.self-inside-is (workspace-undone _ _ _ _ _ _ _ c.self-2.invariant refl)
])

pub returns-clause-board : goal.returns-clause-board
returns-clause-board g c =
    let s = c.args.self.now in
    let lines = lines_of s.puzzle in
    let cells = s.board.cells in
    let b = c.self-2.inside in
    let tried = rw (← c.self-2.view_is) at c.assign_and_propagate-alive.ensures in
    let before : AreConsistent s.puzzle b.consistent cells = rw tried.later.consistent c.requires.ready.consistent in
    let back = undoes s.board b.board _ (c.trail-checkpoint.ensures.len ∙ ap (λ (t : WorkspaceState). length t.board.trail) c.self.view_is)
    tried.later.trail in
    rw c.undo_to.ensures (elim c.if-alive.branch [
      | then-alive w ↦ (
          let closed = sym (rw w.if-alive.true at tried.closed) in
          rw w.self-inside-is
          (leaves-board s (state_of b.deducer b.board b.dirty b.consistent) _ _ _ c.requires.ready.fixpoint tried
          tried.later.puzzle back refl
          ((rw w.lines.ensures.lines at w.add_rows.ensures.consistent) s.puzzle cells (ap (λ (q : Nonogram). q.width) tried.later.puzzle)
          ((closure-IsLeastClosed lines (set cells c.args.place c.args.colour)).closed b.board.cells closed)
          (settled-extends lines cells b.board.cells c.args.place c.args.colour c.requires.cell.unknown closed) before)))
      | else-alive w ↦ rw w.self-inside-is
          (leaves-board s (state_of b.deducer b.board b.dirty b.consistent) _ _ _ c.requires.ready.fixpoint tried
          tried.later.puzzle back refl
          before)
    ])
