-- `Bits256::shifted_up`: by less than 128, so that the high half also gets indices of the low half, and by 128 or more.
use Rattle.std.proofs.Common.{arith, rules}
use Rattle.bit_sets.proofs.Uses.{join_of}
use Rattle.bit_sets.proofs.WordSteps.{none_is}
use Rattle.bit_sets.proofs.Halves.{wholes, halves, up_high}
use Rattle.bit_sets.proofs.wide.Bits256BitSet.shifted_up.Goals as goal

pub returns-then-by-lt128 : goal.returns-then-by-lt128
returns-then-by-lt128 c =
    let by = c.args.by in
    let high = join_of _ _ _ _ _ c.shifted_up.ensures c.shifted_down-over.ensures c.union-high.ensures in
    halves _ _ _ _ _ c.shifted_up-low.type_inv c.shifted_up-low.ensures (λ i l. grind (arith, wholes)) high (λ i.
    up_high c.args.self.low c.args.self.high by i (omega arith) (search rules))

pub returns-else-by-lt128 : goal.returns-else-by-lt128
returns-else-by-lt128 c =
    halves _ _ _ 0 _ (omega arith) (none_is _ (λ i h. h)) (λ i l. grind (arith, wholes)) c.shifted_up-high.ensures (λ i.
    grind (arith, wholes))
