-- `reversed_within`: mirrored in the whole width, the first `len` indices are the last ones, and are shifted down.
use Rattle.std.proofs.Common.{arith}
use Rattle.bit_sets.proofs.Reversing.{within_first}
use Rattle.bit_sets.proofs.prefixes.reversed_within.Goals as goal

pub returns : goal.returns
returns g c =
    within_first g.W.BitSet.WIDTH c.args.len _ _ _ (omega arith) (omega arith) c.reversed.ensures
    (rw c.WIDTH.ensures at c.shifted_down.ensures)
