-- `known_beside`: the two sets count how many neighbours in the row are known or outside the grid, for each cell.
use Rattle.solve_core.proofs.Names.{◌∙◌, one_within}
use Rattle.solve_core.proofs.CountLaws.{beside_is}
use Rattle.solve_core.proofs.picks.known_beside.Goals as goal

pub shifted_up-requires : goal.shifted_up-requires
shifted_up-requires g c = one_within g.W.BitSet.WIDTH g.W.BitSet.LOG2_WIDTH g.met.W.BitSet.top_is.0 g.met.W.BitSet.width_is

pub returns : goal.returns
returns g c = λ x h. c.of.ensures x ∙ beside_is _ _ _ _ _ _ _ x c.requires.1 c.shifted_up.ensures c.shifted_down.ensures
    c.complement_within-left.ensures c.complement_within-right.ensures h
