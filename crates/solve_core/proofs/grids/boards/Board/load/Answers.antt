-- `Board::load`: the board with the grid's cells and an empty trail satisfies the invariant.
use Rattle.solve_core.proofs.Names.{◌≡◌, ◌∙◌, ◌*◌, length, ap, sym, PartialGrid, TrailedGrid}
use Rattle.solve_core.proofs.BoardSteps.{board-fresh}
use Rattle.solve_core.proofs.grids.boards.Board.load.Goals as goal

pub invariant_of-self : goal.invariant_of-self
invariant_of-self g c =
    let b = c.self.inside in
    let load = c.load.ensures.lines in
    let wide : c.args.grid.now.width ≡ b.lines.width = c.requires.width ∙ sym (ap (λ (t : TrailedGrid). t.width) c.self.view_is) in
    let high : c.args.grid.now.height ≡ b.lines.height = c.requires.height ∙ sym (ap (λ (t : TrailedGrid). t.height) c.self.view_is) in
    board-fresh _ c.load.new.self b.lines b.trail.items c.clear.new.self.items _ _ c.self.invariant
    (ap (λ (t : PartialGrid). t.width) load ∙ wide)
    (ap (λ (t : PartialGrid). t.height) load ∙ high)
    (ap (λ (t : PartialGrid). length t.cells) load ∙ c.load.ensures.count ∙ (λ i. wide i * high i) ∙ sym c.self.invariant.count)
    c.clear.ensures.items c.clear.ensures.capacity
