-- Shifted masks, masks of equivalent properties, and fits that make up longer ones.
use Rattle.std.proofs.Common.{◌≡◌, ℕ, ◌+◌, ◌-◌, ◌*◌, ◌/◌, ◌%◌, ◌^◌, ◌<◌, ◌≤◌, arith}
use Rattle.std.specs.Int.{bit_at}
use Rattle.std.proofs.lemmas.Nat.Bits.{bit_at_cat_low, bit_at_cat_high, bit_at-zero}
use Rattle.std.proofs.lemmas.Nat.{shr-shr, pow_pos}
use Rattle.std.proofs.Math.Nat.{mod-lt}
use Rattle.bit_sets.specs.Masks.{Has, IsMaskOf, IsShifted, AllFrom}
use Rattle.bit_sets.proofs.Flooding.{bit_at_mod, has_below}

pub bit_at_shr : (a s i : ℕ) → bit_at (a / 2 ^ s) i ≡ bit_at a (i + s)
bit_at_shr a s i = grind (arith, shr-shr)

pub bit_at_shl_low : (a s i : ℕ) → i < s → bit_at (a * 2 ^ s) i ≡ 0
bit_at_shl_low a s i h = grind (arith, bit_at_cat_low a s 0 i, bit_at-zero)

pub bit_at_shl_high : (a s i : ℕ) → s ≤ i → bit_at (a * 2 ^ s) i ≡ bit_at a (i - s)
bit_at_shl_high a s i h = grind (arith, bit_at_cat_high a s 0 i, pow_pos)

-- a product by `2 ^ s`, cut to the width, is the mask shifted up by `s`
pub up_is : (w a s : ℕ) → IsMaskOf (IsShifted w (Has a) s) (a * 2 ^ s % 2 ^ w)
up_is w a s = grind (arith, bit_at_mod, bit_at_shl_low, bit_at_shl_high, has_below w, mod-lt (a * 2 ^ s) (pow_pos w))

-- a mask is also the set of an equivalent property
pub mask_same : (P Q : ℕ → Type 0) (a : ℕ) → IsMaskOf P a → ((i : ℕ) → P i → Q i) → ((i : ℕ) → Q i → P i) → IsMaskOf Q a
mask_same P Q a p f g = grind arith

-- `P` holds of all `n` indices from `i` on if it holds of the first `m` and of the last `m`, which overlap or touch
all_more : (P : ℕ → Type 0) (m s n i z : ℕ) → s ≤ m → m + s ≡ n → AllFrom P m i → AllFrom P m (i + s) → z < n → P (i + z)
all_more P m s n i z l t first last b = grind (arith, first z, last (z - s))

-- two stretches of `m` indices, `s` apart, that overlap or touch make one of `m + s`
pub widen : (mask w m s n next : ℕ) → IsMaskOf (AllFrom (Has mask) m) w → IsMaskOf (λ i. Has w i × Has w (i + s)) next → s ≤ m → m + s ≡ n
    → IsMaskOf (AllFrom (Has mask) n) next
widen mask w m s n next p q l t =
    let after : (i z : ℕ) → i + s + z ≡ i + (s + z) = λ i z. omega arith in
    record {
      to = λ i h z. let two = q.to i h in all_more (Has mask) m s n i z l t (p.to i two.0) (p.to _ two.1);
      from = λ i h. q.from i (p.from i (λ z b. h z (omega arith)), p.from _ (λ z b. rw (after i z) (h (s + z) (omega arith))));
    }
