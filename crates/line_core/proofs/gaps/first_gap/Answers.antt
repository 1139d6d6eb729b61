-- `first_gap`: a flood from the first cell over the cells that can be blank.
use Rattle.line_core.proofs.Names.{Has, flood_from, meet_of, has_of}
use Rattle.line_core.proofs.gaps.first_gap.Goals as goal

pub returns : goal.returns
returns g c =
    let not_filled = g.W.BitSet.bits c.args.not_filled in
    flood_from _ (Has not_filled) _ _ (meet_of (Has not_filled) _ not_filled _ _ (has_of not_filled) c.first.ensures c.intersection.ensures)
    c.flood.ensures
