-- `Bits256::symmetric_difference`: the symmetric difference of two sets is that of each half.
use Rattle.std.proofs.Common.{arith}
use Rattle.bit_sets.proofs.Halves.{wholes, halves}
use Rattle.bit_sets.proofs.wide.Bits256BitSet.symmetric_difference.Goals as goal

pub returns : goal.returns
returns c =
    halves _ _ _ _ _ c.symmetric_difference-low.type_inv c.symmetric_difference-low.ensures (λ i l. grind (arith, wholes))
    c.symmetric_difference-high.ensures (λ i. grind (arith, wholes))
