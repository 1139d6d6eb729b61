-- `swap_pairs`: the indices that are shifted down, and those that are shifted up.
use Rattle.bit_sets.proofs.Uses.{has_of, join_of, meet_of, shifted_of}
use Rattle.bit_sets.proofs.narrow.swap_pairs.Goals as goal

pub returns : goal.returns
returns c =
    join_of _ _ _ _ _ (meet_of _ _ _ _ _ c.shifted_down.ensures (has_of _) c.intersection-lower.ensures)
    (shifted_of _ _ _ _ _ c.intersection.ensures c.shifted_up-upper.ensures) c.union.ensures
