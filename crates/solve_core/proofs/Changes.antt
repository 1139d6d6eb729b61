-- Membership of an index in a mask that is 0, and in a list of cell indices.
use Rattle.solve_core.proofs.Names.{◌≡◌, ◌≢◌, ℕ, suc, ◌<◌, ◌⊎◌, inl, inr, List, [], ◌∷◌, length, get_or, ap, arith, bit_at, bit_at-zero, cases_eq, Has}

-- a mask that is 0 contains no index
pub none_in : (m : ℕ) → m ≡ 0 → (k : ℕ) → Has m k → ⊥
none_in m e k h = absurd (omega (arith, h, bit_at-zero k, ap (λ (n : ℕ). bit_at n k) e))

none_of : (q p : ℕ) (ps : List ℕ) → q ≢ p → ((k : ℕ) → k < length ps → get_or ps k 0 ≢ p) →
    (k : ℕ) → k < length (q ∷ ps) → get_or (q ∷ ps) k 0 ≢ p
none_of q p ps h l k m = grind arith

-- `p` is an element of `places`, or differs from each of them
pub is_among : (indices : List ℕ) (p : ℕ) →
    ((k : ℕ) × (k < length indices) × (get_or indices k 0 ≡ p)) ⊎ ((k : ℕ) → k < length indices → get_or indices k 0 ≢ p)
is_among [] p = inr (λ k l. absurd (omega arith))
is_among (q ∷ ps) p = elim (cases_eq q p) [
  | inl first ↦ inl (0, omega arith, first)
  | inr other ↦ elim (is_among ps p) [
    | inl there ↦ inl (suc there.0, omega (arith, there.1), there.2)
    | inr none ↦ inr (none_of q p ps other none)
  ]
]
