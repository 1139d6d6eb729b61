-- Mirrored masks.
use Rattle.std.proofs.Common.{◌≡◌, ℕ, zero, suc, ◌+◌, ◌-◌, ◌*◌, ◌^◌, ◌<◌, ◌≤◌, ◌⊎◌, inl, inr, arith, Bool, true, not, ◌&&◌, nat_lt, nat_le, if◌then◌else◌}
use Rattle.std.proofs.lemmas.Bool.{and_parts}
use Rattle.std.proofs.lemmas.Bool.Decides.{nat_tests}
use Rattle.std.proofs.lemmas.Nat.Bits.{bit_at-lt, bit_at_cat_low, bit_at_cat_high}
use Rattle.bit_sets.specs.Masks.{Has, has, IsMaskOf, IsReversed, IsShifted}

-- whether `p` is true of each number below a bound
abbrev pub all_below : ℕ → (ℕ → Bool) → Bool
all_below zero p = true
all_below (suc n) p = p n && all_below n p

pub below_all : (n : ℕ) (p : ℕ → Bool) → all_below n p ≡ true → (i : ℕ) → i < n → p i ≡ true
below_all zero p h i l = absurd (omega arith)
below_all (suc n) p h i l = grind (arith, nat_tests, and_parts (p n) (all_below n p), below_all n p)

-- the index that is exchanged with index `i` of a word if each index in `low` is exchanged with the one that is greater by `by`
abbrev pub swapped_index : ℕ → ℕ → ℕ → ℕ
swapped_index low by i = if has low i then i + by else (i - by)

-- whether index `i` of a word is in one pair: either it is in `low`, or the one that is less by `by`
abbrev pub is_paired : ℕ → ℕ → ℕ → Bool
is_paired low by i =
    let above = nat_le by i && has low (i - by) in
    if has low i then nat_lt (i + by) 64 && not above else above

-- what that means for the index that it is exchanged with
abbrev Paired : ℕ → ℕ → ℕ → Type 0
Paired low by i =
    (Has low i × (i + by < 64) × (swapped_index low by i ≡ i + by) × (by ≤ i → Has low (i - by) → ⊥))
    ⊎ ((Has low i → ⊥) × (by ≤ i) × (swapped_index low by i ≡ i - by) × Has low (i - by))

paired : (low by i : ℕ) → is_paired low by i ≡ true → Paired low by i
paired low by i h = let l = bit_at-lt low i in grind (arith, nat_tests)

pub all_paired : (low by : ℕ) → all_below 64 (is_paired low by) ≡ true → (i : ℕ) → i < 64 → Paired low by i
all_paired low by h i l = paired low by i (below_all 64 (is_paired low by) h i l)

-- a swap after others: the index that it exchanges with `i` is mapped on by them
pub step : (x r s : ℕ) (f : ℕ → ℕ) (low by : ℕ) → ((i : ℕ) → i < 64 → Paired low by i) → IsMaskOf (λ i. (i < 64) × Has x (f i)) r
    → IsMaskOf (λ i. (Has r (i + by) × Has low i) ⊎ IsShifted 64 (λ k. Has r k × Has low k) by i) s
    → IsMaskOf (λ i. (i < 64) × Has x (f (swapped_index low by i))) s
step x r s f low by at p q = record {
  to = λ i y. elim (q.to i y) [
    | inl a ↦
        (let z = p.to _ a.0 in let l : i < 64 = omega (arith, z.0) in
        elim (at i l) [ inl u ↦ (l, rw u.2 z.1) | inr u ↦ absurd (u.0 a.1) ])
    | inr b ↦ elim (at i b.0) [ inl u ↦ absurd (u.3 b.1 b.2.1) | inr u ↦ (b.0, rw u.2 (p.to _ b.2.0).1) ]
  ];
  from = λ i z. q.from i (elim (at i z.0) [
    | inl u ↦ inl (p.from _ (u.1, rw u.2 at z.1), u.0)
    | inr u ↦ inr (z.0, u.1, (p.from _ (omega (arith, z.0), rw u.2 at z.1), u.3))
  ]);
}

-- a mask that is mirrored in its whole width, and then shifted down by `w - len`, is mirrored in its first `len` indices
pub within_first : (w len n r m : ℕ) → 0 < len → len ≤ w → IsMaskOf (IsReversed w (Has n)) r → IsMaskOf (λ i. Has r (i + (w - len))) m
    → IsMaskOf (λ i. (i < len) × Has n (len - 1 - i)) m
within_first w len n r m some fits p q =
    let e : (i : ℕ) → w - 1 - (i + (w - len)) ≡ len - 1 - i = λ i. omega arith in
    record {
      to = λ i h. let a = p.to _ (q.to i h) in (omega (arith, a.0), rw (e i) at a.1);
      from = λ i h. q.from i (p.from _ (omega (arith, h.0), rw (e i) h.1));
    }

-- two words of `n` bits are mirrored by mirroring both and exchanging them
pub words_reversed : (n low high rl rh : ℕ) → low < 2 ^ n → rh < 2 ^ n → IsMaskOf (IsReversed n (Has low)) rl
    → IsMaskOf (IsReversed n (Has high)) rh → IsMaskOf (IsReversed (n + n) (Has (high * 2 ^ n + low))) (rl * 2 ^ n + rh)
words_reversed n low high rl rh fl fr of_low of_high = grind (arith, bit_at_cat_low, bit_at_cat_high)
