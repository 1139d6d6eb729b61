-- The operations on one word, as operations on sets of indices.
use Rattle.std.proofs.Common.{ℕ, zero, suc, ◌+◌, ◌-◌, ◌*◌, ◌/◌, ◌%◌, ◌^◌, ◌<◌, ◌≤◌, inl, inr, ◌∙◌, arith}
use Rattle.std.specs.Int.{w64, w128, trailing_zeros, Width}
use mir.Val.{bits}
use Rattle.std.proofs.lemmas.Bool.{cases_eq}
use Rattle.std.proofs.lemmas.Bool.Decides.{nat_tests}
use Rattle.std.proofs.lemmas.Nat.Bits.{bit_at_and, bit_at_or, bit_at_above, bit_at_xor, bit_at_not, bit_at-lt, bit_at-zero, bit_at_ones, bit_at_ones_above, bit_at-pow_same, bit_at-pow_other, bit_at_lowest, bit_at-suc, bit_at-trailing_zeros}
use Rattle.std.proofs.lemmas.Nat.{pow-add}
use Rattle.bit_sets.proofs.Steps.{bit_at_shr, up_is}
use Rattle.bit_sets.specs.Masks.{Has, IsMaskOf}

-- a word of `n` ones has the indices below `n`
pub low_ones : (n : ℕ) → IsMaskOf (λ i. i < n) (2 ^ n - 1)
low_ones n = grind (arith, bit_at_ones, bit_at_ones_above)

pub none_is : (P : ℕ → Type 0) → ((i : ℕ) → P i → ⊥) → IsMaskOf P 0
none_is P f = grind (arith, bit_at-zero)

-- no index is greater than the logarithm of a word
pub none_above : (m r : ℕ) → 2 ^ r ≤ m → m < 2 * 2 ^ r → (i : ℕ) → Has m i → i ≤ r
none_above m r a b i h = grind (arith, pow-add 2 r 1, bit_at_above m (r + 1) i)

index_in : (n m : ℕ) → m ≤ n → 0 < m → (i : ℕ) × Has m i
index_in zero m b p = absurd (omega arith)
index_in (suc n) m b p = elim (cases_eq (m % 2) 1) [
  | inl e ↦ (0, bit_at_lowest m ∙ e)
  | inr e ↦ (let r = index_in n (m / 2) (omega arith) (omega arith) in (suc r.0, bit_at-suc m r.0 ∙ r.1))
]

-- a mask that is not 0 has an index
pub some_index : (m : ℕ) → 0 < m → (i : ℕ) × Has m i
some_index m p = index_in m m (omega arith) p

-- a word of ones has all indices below its width
pub full_64 : IsMaskOf (λ i. i < 64) 18446744073709551615
full_64 = low_ones 64

pub full_128 : IsMaskOf (λ i. i < 128) 340282366920938463463374607431768211455
full_128 = low_ones 128

pub full_256 : IsMaskOf (λ i. i < 256) 115792089237316195423570985008687907853269984665640564039457584007913129639935
full_256 = low_ones 256

-- the number of trailing zeros is the least index of a word that is not 0
least : (w : Width) (n i : ℕ) → 0 < n → n < 2 ^ bits w → Has n (trailing_zeros w n) × (Has n i → trailing_zeros w n ≤ i)
least w n i p l = grind (arith, bit_at-trailing_zeros)

pub least_64 : (n i : ℕ) → 0 < n → n < 18446744073709551616 → Has n (trailing_zeros w64 n) × (Has n i → trailing_zeros w64 n ≤ i)
least_64 n i p l = least w64 n i p l

pub least_128 : (n i : ℕ) → 0 < n → n < 340282366920938463463374607431768211456
    → Has n (trailing_zeros w128 n) × (Has n i → trailing_zeros w128 n ≤ i)
least_128 n i p l = least w128 n i p l

-- the rules for the result of an operation on words
pub ruleset words = (bit_at_and, bit_at_or, bit_at_xor, bit_at-lt, nat_tests, full_64, full_128, least_64, least_128, none_above, up_is, bit_at_shr)
