-- `Workspace::look`: a colour that is inert is consistent, and can be recorded.
use Rattle.solve_core.proofs.Names.{◌≡◌, ◌∙◌, List, ap, false, is_none, is_refuted, lines_of, refl, subst, sym, AreConsistent, ColourMasks, WorkspaceState, state_of}
use Rattle.solve_core.proofs.WorkspaceTrials.{adds-consistent}
use Rattle.solve_core.proofs.solving.workspaces.Workspace.look.Goals as goal

pub returns-clause-board : goal.returns-clause-board
returns-clause-board g c =
    let s = c.args.self.now in
    let b = c.self-2.inside in
    let same = c.self-2.view_is ∙ c.is_inert.ensures.same in
    let at = rw c.is_inert.ensures.same at c.column_and_row-x.ensures in
    let alive : is_refuted (lines_of s.puzzle) s.board.cells c.args.place c.args.colour ≡ false =
    ap is_none (c.if-not-is_inert.ensures.inert refl) in
    let before = subst (λ (r : List ColourMasks). AreConsistent s.puzzle r s.board.cells)
    (sym (ap (λ (t : WorkspaceState). t.consistent) same)) c.requires.ready.consistent in
    adds-consistent s (state_of b.deducer b.board b.dirty b.consistent) c.add.new.self same c.requires.ready
    (c.add.ensures.consistent s.puzzle s.board.cells at.column (rw (at.place, ← c.from.ensures) at alive) before)
