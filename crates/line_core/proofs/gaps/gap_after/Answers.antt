-- `gap_after`: a flood from the cells after the run's ends over the cells that can be blank.
use Rattle.line_core.proofs.Names.{Has, flood_from, meet_of, has_of}
use Rattle.line_core.proofs.gaps.gap_after.Goals as goal

pub returns : goal.returns
returns g c =
    flood_from _ (Has (g.W.BitSet.bits c.args.not_filled)) _ _
    (meet_of _ (Has (g.W.BitSet.bits c.args.not_filled)) _ _ _ c.shifted_up.ensures (has_of _) c.intersection.ensures) c.flood.ensures
