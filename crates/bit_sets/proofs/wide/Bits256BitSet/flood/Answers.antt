-- `Bits256::flood`: the carries of the sum of two halves are the flood.
use Rattle.std.proofs.Common.{◌≡◌, ℕ, ◌+◌, ◌%◌, ◌^◌, ◌<◌, ltb, arith, rules}
use mir.Val.{bool_byte}
use Rattle.bit_sets.specs.Masks.{from_halves}
use Rattle.bit_sets.proofs.Flooding.{flooded}
use Rattle.bit_sets.proofs.wide.Bits256BitSet.flood.Goals as goal

-- the sum of two numbers by halves, with the carry of the low halves
sum_of_halves : (nl nh xl xh : ℕ) → nl < 2 ^ 128 → xl < 2 ^ 128
    → from_halves ((nl + xl) % 2 ^ 128) (((nh + xh) % 2 ^ 128 + bool_byte (ltb ((nl + xl) % 2 ^ 128) xl)) % 2 ^ 128)
    ≡ (from_halves nl nh + from_halves xl xh) % 2 ^ 256
sum_of_halves nl nh xl xh a b = grind arith

pub returns : goal.returns
returns c =
    let n = c.args.free in
    let x = c.args.sources in
    let sum = sum_of_halves n.low n.high x.low x.high (search rules) (search rules) in
    flooded 256 _ _ _ _ _ (omega arith) (omega arith) c.requires
    (rw sum at (rw c.from-carry.ensures at c.symmetric_difference-changed.ensures)) c.intersection.ensures c.union.ensures
