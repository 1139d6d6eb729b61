-- `Board::reset`: with all cells unknown and a trail capacity of an entry for each cell, the board satisfies the invariant.
use Rattle.solve_core.proofs.Names.{◌≡◌, ◌*◌, arith, length-replicate, refl, Unknown}
use Rattle.solve_core.proofs.BoardSteps.{board-unknown}
use Rattle.solve_core.proofs.grids.boards.Board.reset.Goals as goal

pub invariant_of-self-2 : goal.invariant_of-self-2
invariant_of-self-2 g c =
    let cells : c.from.result * c.from-2.result ≡ c.args.width * c.args.height = λ i. c.from.ensures i * c.from-2.ensures i in
    let count = length-replicate (c.args.width * c.args.height) Unknown in
    rw c.reset.ensures (board-unknown _ _ _ _ c.requires.size c.requires.fits refl c.clear.ensures.items (omega (
      arith,
      count,
      cells,
      c.saturating_sub.ensures,
      c.len.ensures,
      c.in_ok-reserve.ensures.ok,
      c.in_ok-reserve.ensures.len,
      c.clear.ensures.capacity,
    )))
