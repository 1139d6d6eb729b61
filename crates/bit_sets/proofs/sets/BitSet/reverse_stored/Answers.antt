-- `BitSet::reverse_stored`: the set is mirrored in its whole width, and then shifted down.
use Rattle.std.proofs.Common.{arith}
use Rattle.bit_sets.proofs.Reversing.{within_first}
use Rattle.bit_sets.proofs.sets.BitSet.reverse_stored.Goals as goal

pub returns : goal.returns
returns g c =
    rw (c.to_stored.ensures, ← c.from_stored.ensures) (within_first g.Self.BitSet.WIDTH c.args.len _ _ _ (omega arith) (omega arith)
    c.reversed-mirrored.ensures (rw c.WIDTH.ensures at c.shifted_down.ensures))
