-- `Bits256::shifted_down` by less than 128: the low half also gets indices of the high half.
use Rattle.std.proofs.Common.{arith, rules}
use Rattle.bit_sets.proofs.Uses.{join_of}
use Rattle.bit_sets.proofs.Halves.{halves, down_high, down_low}
use Rattle.bit_sets.proofs.wide.Bits256BitSet.shifted_down.Goals as goal

pub returns-then-by-lt128 : goal.returns-then-by-lt128
returns-then-by-lt128 c =
    let by = c.args.by in
    let low = join_of _ _ _ _ _ c.shifted_down.ensures c.shifted_up-over.ensures c.union-low.ensures in
    halves _ _ _ _ _ c.union-low.type_inv low (λ i l. down_low c.args.self.low c.args.self.high by i (omega arith) (search rules) l)
    c.shifted_down-high.ensures (λ i. down_high c.args.self.low c.args.self.high by i (search rules))
