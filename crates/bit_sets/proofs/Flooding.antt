-- How an addition floods: added to the free indices, each source carries upwards as far as they are adjacent.
use Rattle.std.proofs.Common.{◌≡◌, ◌≢◌, ℕ, zero, suc, ◌+◌, ◌/◌, ◌%◌, ◌^◌, ◌<◌, ◌↔◌, ◌⊎◌, sym, ap, ◌∙◌, arith}
use Rattle.std.specs.Int.{bit_at}
use Rattle.std.proofs.lemmas.Bool.Decides.{nat_tests}
use Rattle.std.proofs.lemmas.Nat.Bits.{bit_at_lowest, bit_at-suc, bit_at-lt, bit_at_cat_low, bit_at_above}
use Rattle.std.proofs.lemmas.Nat.{div-add-mod'}
use Rattle.bit_sets.specs.Masks.{Has, has, IsFlooded, IsMaskOf}

-- the carry into an index if the sources `x`, the free indices `n` and the carry `c` are added
abbrev carry : ℕ → ℕ → ℕ → ℕ → ℕ
carry x n c zero = c
carry x n c (suc i) = carry (x / 2) (n / 2) ((n % 2 + x % 2 + c) / 2) i

-- bit `i` of a sum with a carry
bit_at_sum : (i x n c : ℕ) → bit_at (n + x + c) i ≡ (bit_at n i + bit_at x i + carry x n c i) % 2
bit_at_sum zero x n c = grind (arith, bit_at_lowest)
bit_at_sum (suc i) x n c = grind (arith, bit_at-suc, bit_at_sum i (x / 2) (n / 2) ((n % 2 + x % 2 + c) / 2))

carry_step : (i x n c : ℕ) → carry x n c (suc i) ≡ (bit_at n i + bit_at x i + carry x n c i) / 2
carry_step zero x n c = grind (arith, bit_at_lowest)
carry_step (suc i) x n c = grind (arith, bit_at-suc, carry_step i (x / 2) (n / 2) ((n % 2 + x % 2 + c) / 2))

carry_below : (i x n c : ℕ) → c < 2 → carry x n c i < 2
carry_below zero x n c h = h
carry_below (suc i) x n c h = carry_below i (x / 2) (n / 2) ((n % 2 + x % 2 + c) / 2) (omega arith)

-- there is a carry out of an index exactly if it is flooded
carried : (x n i : ℕ) → ((j : ℕ) → Has x j → Has n j) → (carry x n 0 (suc i) ≡ 1) ↔ IsFlooded (Has x) (Has n) i
carried x n zero h = grind (arith, carry_step 0 x n 0, bit_at-lt, h 0)
carried x n (suc i) h = grind (arith, carry_step (suc i) x n 0, carry_below (suc i) x n 0, carried x n i h, bit_at-lt)

-- a remainder by `2 ^ w` has the same bits below `w`
pub bit_at_mod : (w n i : ℕ) → i < w → bit_at (n % 2 ^ w) i ≡ bit_at n i
bit_at_mod w n i h = sym (bit_at_cat_low (n / 2 ^ w) w (n % 2 ^ w) i h) ∙ ap (λ (z : ℕ). bit_at z i) (div-add-mod' n (2 ^ w))

-- each index of a mask of `w` bits is less than `w`
pub has_below : (w mask i : ℕ) → mask < 2 ^ w → Has mask i → i < w
has_below w mask i h e = grind (arith, bit_at_above)

flooded_free : (x n i : ℕ) → ((j : ℕ) → Has x j → Has n j) → IsFlooded (Has x) (Has n) i → Has n i
flooded_free x n zero h f = h 0 f
flooded_free x n (suc i) h f = grind arith

-- there is a carry out of an index exactly if it is a source, or is free and changed by the sum
trick : (w x n i : ℕ) → i < w → ((j : ℕ) → Has x j → Has n j)
    → (carry x n 0 (suc i) ≡ 1) ↔ (((has ((n + x) % 2 ^ w) i ≢ has n i) × Has n i) ⊎ Has x i)
trick w x n i l h =
    let low = bit_at_mod w (n + x) i l in
    grind (arith, nat_tests, bit_at_sum i x n 0, carry_below i x n 0, carry_step i x n 0, bit_at-lt, h i)

-- if all sources are free, then the free indices that their sum with the sources changes, and the sources, are the flood
pub flooded : (w x n changed new all : ℕ) → x < 2 ^ w → n < 2 ^ w → ((j : ℕ) → Has x j → Has n j)
    → IsMaskOf (λ i. has ((n + x) % 2 ^ w) i ≢ has n i) changed → IsMaskOf (λ i. Has changed i × Has n i) new
    → IsMaskOf (λ i. Has new i ⊎ Has x i) all → IsMaskOf (IsFlooded (Has x) (Has n)) all
flooded w x n changed new all a b h p q r =
    grind (arith, trick w x n, carried x n, flooded_free x n, has_below w)
