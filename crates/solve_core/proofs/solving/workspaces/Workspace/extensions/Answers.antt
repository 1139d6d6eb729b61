-- `Workspace::extensions`: the search starts from the grid after trials, and finds the defined solutions.
use Rattle.solve_core.proofs.Names.{◌≡◌, ◌∙◌, ap, picked, refl, sym, lines_of, trials, Nonogram, TrailedGrid}
use Rattle.solve_core.proofs.ReportLaws.{extensions-found}
use Rattle.solve_core.proofs.solving.workspaces.Workspace.extensions.Goals as goal

pub returns-clause-extensions : goal.returns-clause-extensions
returns-clause-extensions g c =
    let p = c.args.self.now.puzzle in
    let closed = c.if-not-close_trials.ensures in
    let same : c.close_trials.new.self.puzzle ≡ p =
    closed.puzzle ∙ rw (c.load.ensures.board, c.requires.0, c.requires.1, ← c.self.view_is) refl in
    let tried = closed.tried ∙ ap (λ (q : Nonogram). trials (lines_of q) c.load.new.self.cells) (sym closed.puzzle ∙ same)
    ∙ ap (λ (board : TrailedGrid). trials (lines_of p) board.cells) c.load.ensures.board in
    extensions-found (picked c.args.pick p.width) p c.args.grid.now.cells _ c.args.guesses c.verdict.result _
    (rw same at c.search-end.ensures.end) tried c.verdict.ensures
