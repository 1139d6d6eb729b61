-- `Board::new`: with an unknown cell and room for an entry, the board satisfies the invariant.
use Rattle.solve_core.proofs.Names.{arith, one_within, refl, rules}
use Rattle.solve_core.proofs.BoardSteps.{board-unknown}
use Rattle.solve_core.proofs.grids.boards.Board.new.Goals as goal

pub invariant_of-result : goal.invariant_of-result
invariant_of-result g c =
    let wide = one_within g.W.BitSet.WIDTH g.W.BitSet.LOG2_WIDTH g.met.W.BitSet.top_is.0 g.met.W.BitSet.width_is in
    rw c.in_ok-new.ensures (board-unknown _ _ _ _ (search rules) (omega (arith, wide), omega (arith, wide)) refl
    c.in_ok-with_capacity.ensures.items (omega (arith, c.in_ok-with_capacity.ensures.capacity)))
