-- `level_of`: setting the lowest bit of a length doesn't change its logarithm.
use Rattle.std.proofs.Common.{◌≡◌, ℕ, ◌+◌, ◌-◌, ◌*◌, ◌/◌, ◌^◌, ◌%◌, ◌<◌, ◌≤◌, arith, bit_or, bit_xor}
use Rattle.std.proofs.lemmas.Nat.{one_shl, pow-add, pow_below, pow_pos, xor_block, or_block, or_lt, le_or_r}
use Rattle.std.specs.Int.Bits.{xor_zero_r, or_zero_r}
use Rattle.bit_sets.proofs.fit_tables.level_of.Goals as goal

-- a number after its lowest bit was set
with_lowest : (n : ℕ) → bit_or n 1 ≡ n / 2 * 2 + 1
with_lowest n = grind (arith, or_block 1 (n / 2) 0 (n % 2) 1, or_zero_r, or_lt 1 (n % 2) 1, le_or_r (n % 2) 1)

-- flipping the highest bit of a number subtracts its greatest power of two
rest_of : (level n : ℕ) → 2 ^ level ≤ n → n < 2 * 2 ^ level → bit_xor n (2 ^ level) ≡ n - 2 ^ level
rest_of level n low high = grind (arith, xor_block level 1 1 (n - 2 ^ level) 0, pow_pos level, xor_zero_r)

-- the level of a length after its lowest bit was set is that of the length, and flipping its bit yields the rest
is_level : (level length odd : ℕ) → odd ≡ bit_or length 1 → 0 < length → length ≤ 256 → 2 ^ level ≤ odd → odd < 2 * 2 ^ level
    → (2 ^ level ≤ length) × (length < 2 * 2 ^ level) × (level ≤ 8) × (bit_xor length (1 * 2 ^ level % 65536) ≡ length - 2 ^ level)
is_level level length odd e some short l h =
    grind (arith, with_lowest length, pow-add 2 (level - 1) 1, pow_below 8 level, rest_of level length, one_shl level 16)

pub ilog2-level-requires : goal.ilog2-level-requires
ilog2-level-requires c = omega (arith, with_lowest c.args.length, c.from.ensures)

pub overflow_shl-result : goal.overflow_shl-result
overflow_shl-result c =
    let log = c.ilog2-level.ensures in
    let is = is_level _ c.args.length _ c.from.ensures c.requires.0 c.requires.1 log.power_le log.next_power_gt in
    omega arith

pub returns : goal.returns
returns c =
    let log = c.ilog2-level.ensures in
    let is = is_level _ c.args.length _ c.from.ensures c.requires.0 c.requires.1 log.power_le log.next_power_gt in
    record { level = omega arith; length = omega arith; rest = omega arith }
