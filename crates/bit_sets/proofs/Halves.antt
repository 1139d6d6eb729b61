-- Masks in two halves: the indices below 128 in one, the others in the other.
use Rattle.std.proofs.Common.{◌≡◌, ℕ, ◌+◌, ◌-◌, ◌^◌, ◌<◌, ◌≤◌, ◌⊎◌, ◌↔◌, nat_eq, arith}
use Rattle.std.specs.Int.{bit_at}
use Rattle.std.specs.Int.RustNames.{bit_or}
use Rattle.std.proofs.lemmas.Nat.{le_or_l, le_or_r}
use Rattle.bit_sets.proofs.WordSteps.{full_64}
use Rattle.std.specs.Int.Bits.{or_zero_l, or_zero_r}
use Rattle.std.proofs.lemmas.Bool.Decides.{nat_tests}
use Rattle.std.proofs.lemmas.Nat.Bits.{bit_at-zero, bit_at_and, bit_at-lt, bit_at_cat_low, bit_at_cat_high, bit_at_above}
use Rattle.bit_sets.specs.Masks.{Has, IsMaskOf, IsShifted, from_halves}

abbrev Fits : ℕ → Type 0
Fits n = n < 2 ^ 128

-- an index below 128 is in a mask of two halves as it is in the low half
pub bit_low : (low high i : ℕ) → i < 128 → bit_at (from_halves low high) i ≡ bit_at low i
bit_low low high i l = bit_at_cat_low high 128 low i l

-- an index from 128 on is in a mask of two halves as it is, less 128, in the high half
pub at_high : (low high i : ℕ) → Fits low → 128 ≤ i → bit_at (from_halves low high) i ≡ bit_at high (i - 128)
at_high low high i f l = bit_at_cat_high high 128 low i f l

-- a half has no index from 128 on
pub above : (n i : ℕ) → Fits n → 128 ≤ i → bit_at n i ≡ 0
above n i f l = bit_at_above n 128 i f l

-- both halves are empty exactly if the whole is
pub empty_halves : (low high : ℕ) → nat_eq (bit_or low high) 0 ≡ nat_eq (from_halves low high) 0
empty_halves low high = grind (arith, nat_tests, le_or_l, le_or_r, or_zero_l, or_zero_r)

-- the rules for an index of a mask of two halves
pub ruleset wholes = (bit_low, at_high, above, bit_at-zero)

-- the rules for an index of a low half
pub ruleset parts = (bit_low, above, bit_at_and, bit_at-lt, full_64)

-- a mask of two halves is the set of `P` if the low half is that of `P` below 128, and the high half that of `P` from 128 on
pub halves : (P Q R : ℕ → Type 0) (low high : ℕ) → Fits low → IsMaskOf Q low → ((i : ℕ) → i < 128 → P i ↔ Q i) → IsMaskOf R high
    → ((i : ℕ) → P (i + 128) ↔ R i) → IsMaskOf P (from_halves low high)
halves P Q R low high f p q r s = grind (arith, wholes)

-- which indices below 128 are in two halves that are shifted down by less than 128
pub down_low : (low high by i : ℕ) → by < 128 → Fits low → i < 128
    → Has (from_halves low high) (i + by) ↔ (Has low (i + by) ⊎ IsShifted 128 (Has high) (128 - by) i)
down_low low high by i b f l = grind (arith, wholes, at_high low high (i + by))

-- which indices from 128 on are in two halves that are shifted down
pub down_high : (low high by i : ℕ) → Fits low → Has (from_halves low high) (i + 128 + by) ↔ Has high (i + by)
down_high low high by i f = grind (arith, at_high low high (i + 128 + by))

-- which indices from 128 on are in two halves that are shifted up by less than 128
pub up_high : (low high by i : ℕ) → by < 128 → Fits low
    → IsShifted 256 (Has (from_halves low high)) by (i + 128) ↔ (IsShifted 128 (Has high) by i ⊎ Has low (i + (128 - by)))
up_high low high by i b f = grind (arith, bit_low low high (i + 128 - by), at_high low high (i + 128 - by), above low (i + (128 - by)))
