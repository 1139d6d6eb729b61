-- `findings`: the report is the defined one in each case: a dead closure, dead trials, or a search.
use Rattle.solve_core.proofs.Names.{◌≡◌, ◌∙◌, ap, count_by, is_known, grade_by, picked, sym, None, Some, WorkspaceState}
use Rattle.solve_core.proofs.ReportLaws.{report-of}
use Rattle.solve_core.proofs.solving.workspaces.Workspace.findings.Goals as goal
use Rattle.solve_core.proofs.solving.workspaces.Workspace.findings.Goals.{then-by_lines, else-by_lines}

known : {s t : WorkspaceState} → s ≡ t → count_by is_known s.board.cells ≡ count_by is_known t.board.cells
known e = ap (λ (s : WorkspaceState). count_by is_known s.board.cells) e

pub returns-then-not-try_unless_full : goal.returns-then-not-try_unless_full
returns-then-not-try_unless_full g c =
    let p = c.args.self.now.puzzle in
    let line_known = (rw c.lines.ensures.lines at c.known-line_known.ensures) ∙ known c.self.view_is in
    rw (c.grade.ensures, c.is_full-by_lines.ensures, line_known)
    (report-of (picked c.args.pick p.width) p c.args.guesses c.args.self.now.board.cells (Some c.close_lines.new.self.board.cells) None
    c.requires.unknown c.if-not-close_lines.ensures.closed
    (rw c.close_lines.ensures.later.puzzle at c.if-not-try_unless_full.ensures.tried.tried))

pub returns : goal.returns
returns g c =
    let p = c.args.self.now.puzzle in
    let tried = c.if-not-try_unless_full.ensures in
    let same = tried.tried.puzzle ∙ c.close_lines.ensures.later.puzzle in
    let graded = c.grade-grade.ensures ∙ (λ i. grade_by (c.is_full-by_lines.ensures i) (c.is_full.ensures i)) in
    let line_known = (rw c.lines.ensures.lines at c.known-line_known.ensures) ∙ known c.self.view_is in
    let trial_known : c.if-by_lines.trial_known ≡ count_by is_known c.try_unless_full.new.self.board.cells = elim c.if-by_lines.branch [
      | then-by_lines w ↦ w.trial_known-is ∙ line_known ∙ ap (count_by is_known) (sym (tried.same w.if-by_lines.true))
      | else-by_lines w ↦
          w.trial_known-is ∙ (rw w.lines-else-by_lines.ensures.lines at w.known-trial_known.ensures) ∙ known c.self-2.view_is
    ] in
    rw (c.verdict.ensures, graded, line_known, trial_known)
    (rw (← (rw same at c.search-end.ensures.end)) at (report-of (picked c.args.pick p.width) p c.args.guesses c.args.self.now.board.cells
    (Some c.close_lines.new.self.board.cells) (Some c.try_unless_full.new.self.board.cells) c.requires.unknown
    c.if-not-close_lines.ensures.closed (rw c.close_lines.ensures.later.puzzle at tried.tried.tried)))
