-- Spreading by levels: the levels after a mask was joined to one of them, and a mask that is spread further.
use Rattle.std.proofs.Common.{◌≡◌, ℕ, zero, suc, refl, replicate, ◌+◌, ◌-◌, ◌^◌, ◌<◌, ◌≤◌, ◌↔◌, List, length, get_or, set, sym, map, arith, get_or-set_same, get_or-set_other, ◌⊎◌, inl, inr}
use Rattle.std.proofs.lemmas.Bool.{cases_lt}
use Rattle.bit_sets.specs.Masks.{Has, IsMaskOf, SomeFrom, SomeLevel, AreLevelsOf}
use Rattle.std.proofs.lemmas.Nat.Bits.{bit_at-zero}
use Rattle.std.proofs.lemmas.List.{get_or-map, map-set, length-map}

-- `P` holds of some index among the `n` from `i` on if it holds of one of these, `j`
some_at : (P : ℕ → Type 0) (n i j : ℕ) → P j → i ≤ j → j < i + n → SomeFrom P n i
some_at P n i j p l b = let e : i + (j - i) ≡ j = omega arith in (j - i, omega arith, rw e p)

-- a mask that is spread by length `m`, joined to its copy shifted down by `s`, is spread by length `m + s`
pub spread_more : (mask w m s n next : ℕ) → IsMaskOf (SomeFrom (Has mask) m) w → IsMaskOf (λ i. Has w i ⊎ Has w (i + s)) next → s ≤ m
    → m + s ≡ n → IsMaskOf (SomeFrom (Has mask) n) next
spread_more mask w m s n next p q l t =
    let at = some_at (Has mask) in
    record {
      to = λ i h. elim (q.to i h) [
        | inl x ↦ (let y = p.to i x in at n i _ y.2 (omega arith) (omega (arith, y.1)))
        | inr x ↦ (let y = p.to _ x in at n i _ y.2 (omega arith) (omega (arith, y.1)))
      ];
      from = λ i x. q.from i (elim (cases_lt x.0 m) [
        | inl low ↦ inl (p.from i (x.0, low, x.2))
        | inr high ↦ inr (p.from _ (at m (i + s) _ x.2 (omega arith) (omega (arith, x.1))))
      ]);
    }

-- a mask joined to its copy shifted down by `s`, and then spread by length `m`, is spread by length `m + s`
pub spread_before : (mask s next m n i : ℕ) → s ≤ m → m + s ≡ n → IsMaskOf (λ i. Has mask i ⊎ Has mask (i + s)) next
    → SomeFrom (Has next) m i ↔ SomeFrom (Has mask) n i
spread_before mask s next m n i l t h = (
  λ x. elim (h.to _ x.2) [
    | inl y ↦ some_at (Has mask) n i _ y (omega arith) (omega (arith, x.1))
    | inr y ↦ some_at (Has mask) n i _ y (omega arith) (omega (arith, x.1))
  ],
  λ x. elim (cases_lt x.0 m) [
    | inl low ↦ (x.0, low, h.from _ (inl x.2))
    | inr high ↦
        (let e : i + x.0 - s + s ≡ i + x.0 = omega arith in
        some_at (Has next) m i (i + x.0 - s) (h.from _ (inr (rw e x.2))) (omega arith) (omega (arith, x.1)))
  ],
)

-- an element of a list of sets, as a mask
pub bits_at : {A : Type 0} (bits : A → ℕ) (xs : List A) (i : ℕ) (d : A) → i < length xs
    → bits (get_or xs i d) ≡ get_or (map bits xs) i 0
bits_at bits xs i d l = sym (get_or-map bits xs i d 0 l)

-- the indices of each level's mask after a mask was joined to that of one level
has_set : {A : Type 0} (bits : A → ℕ) (xs : List A) (level : ℕ) (d y : A) (next : ℕ) → level < length xs
    → IsMaskOf (λ k. Has (bits (get_or xs level d)) k ⊎ Has next k) (bits y) → (k j : ℕ)
    → Has (get_or (map bits (set xs level y)) k 0) j ↔ (Has (get_or (map bits xs) k 0) j ⊎ ((k ≡ level) × Has next j))
has_set bits xs level d y next l p k j =
    rw (map-set bits xs level y) (grind (arith, get_or-set_same, get_or-set_other, get_or-map bits xs level d 0, length-map))

-- the indices of all levels together after a mask, joined to its copy shifted down by `s`, was joined to one level
pub level_set : {A : Type 0} (bits : A → ℕ) (xs : List A) (top level : ℕ) (d y : A) (mask s next n : ℕ) → level ≤ top
    → level < length xs → s ≤ 2 ^ level → 2 ^ level + s ≡ n → IsMaskOf (λ i. Has mask i ⊎ Has mask (i + s)) next
    → IsMaskOf (λ k. Has (bits (get_or xs level d)) k ⊎ Has next k) (bits y)
    → (i : ℕ) → SomeLevel top (map bits (set xs level y)) i ↔ (SomeLevel top (map bits xs) i ⊎ SomeFrom (Has mask) n i)
level_set bits xs top level d y mask s next n b l t e q p i =
    let at = has_set bits xs level d y next l p in
    let more = spread_before mask s next (2 ^ level) n i t e q in (
      λ x. elim ((at x.0 _).0 x.2.2) [ inl o ↦ inl (x.0, x.1, (x.2.0, x.2.1, o)) | inr h ↦ inr (more.0 (x.2.0, rw h.0 at x.2.1, h.1)) ],
      λ x. elim x [
        | inl o ↦ (o.0, o.1, (o.2.0, o.2.1, (at o.0 _).1 (inl o.2.2)))
        | inr h ↦ (let w = more.1 h in (level, b, (w.0, w.1, (at level _).1 (inr (refl, w.2)))))
      ],
    )

-- empty levels have no index
pub levels_none : (P : ℕ → Type 0) (top : ℕ) (levels : List ℕ) → ((k : ℕ) → get_or levels k 0 ≡ 0) → ((i : ℕ) → P i → ⊥)
    → AreLevelsOf P top levels
levels_none P top levels none never = grind (arith, bit_at-zero)

-- level 0 extends by no further index, so it has just those of its mask
pub lowest_is : (P : ℕ → Type 0) (low : ℕ) (levels : List ℕ) → low ≡ 0 → AreLevelsOf P low levels → IsMaskOf P (get_or levels 0 0)
lowest_is P low levels e p = grind arith

-- each element of a list of empty sets is the mask 0
pub none_at : {A : Type 0} (bits : A → ℕ) (none : A) → bits none ≡ 0 → (count k : ℕ)
    → get_or (map bits (replicate count none)) k 0 ≡ 0
none_at bits none e zero k = refl
none_at bits none e (suc count) zero = e
none_at bits none e (suc count) (suc k) = none_at bits none e count k
