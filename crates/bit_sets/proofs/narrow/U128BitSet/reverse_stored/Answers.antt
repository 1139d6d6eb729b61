-- `u128::reverse_stored`: a set that is not full is mirrored and shifted down.
use Rattle.std.proofs.Common.{arith}
use Rattle.bit_sets.proofs.Reversing.{within_first}
use Rattle.bit_sets.proofs.narrow.U128BitSet.reverse_stored.Goals as goal

pub returns : goal.returns
returns c =
    rw c.to_stored.ensures (rw c.from_stored.ensures at
    (within_first 128 c.args.len _ _ _ (omega arith) (omega arith) c.reversed-2.ensures c.shifted_down.ensures))
