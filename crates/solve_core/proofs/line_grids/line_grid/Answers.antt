-- `line_grid`: closing the unknown grid yields its closure as a grid of the puzzle's size.
use Rattle.solve_core.proofs.Names.{◌≡◌, ◌∙◌, ap, closure, grid_of, line_closure, lines_of, option_map, unknown_grid, Nonogram, Some, rules}
use Rattle.solve_core.specs.Closure.{if_alive}
use Rattle.solve_core.proofs.line_grids.line_grid.Goals as goal
use Rattle.solve_core.proofs.line_grids.line_grid.Goals.{then-alive, else-alive}

pub returns : goal.returns
returns c =
    let p = c.args.puzzle.now in
    let grid = c.close_lines-alive.new.grid in
    let close = c.close_lines-alive.ensures in
    let solver : c.in_ok-new.field-0 ≡ p = c.in_ok-new.ensures in
    let cells : c.in_ok-grid.grid.cells ≡ unknown_grid p = search (rules, c.in_ok-grid.ensures, c.width.ensures.width, c.height.ensures) in
    let closed : if_alive c.close_lines-alive.result grid.cells ≡ line_closure p =
    close.closed ∙ (λ i. closure (lines_of (solver i)) (cells i)) in
    let width = close.size.0 ∙ ap (λ (q : Nonogram). q.width) solver in
    let height = close.size.1 ∙ ap (λ (q : Nonogram). q.height) solver in
    elim c.if-alive.branch [
      | then-alive w ↦
          w.result-is ∙ (λ i. Some (record { width = width i; height = height i; cells = grid.cells }))
          ∙ ap (option_map (grid_of p)) (rw w.if-alive.true at closed)
      | else-alive w ↦ w.result-is ∙ ap (option_map (grid_of p)) (rw w.if-alive.false at closed)
    ]
