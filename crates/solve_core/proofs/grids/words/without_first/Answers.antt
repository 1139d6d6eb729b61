-- `without_first`: a word less 1 has the bits above the word's lowest one, and not that one.
use Rattle.solve_core.proofs.Names.{◌≡◌, ◌≢◌, ◌∙◌, ℕ, zero, suc, ◌-◌, ◌/◌, ◌<◌, inl, inr, refl, sym, ap, arith, true≢false, bit_at, cases_eq, bit_at_and, bit_at-lt, bit_at_lowest, bit_at-suc, Has, rules}
use Rattle.solve_core.proofs.grids.words.without_first.Goals as goal

half : (n : ℕ) → (Has n 0 → ⊥) → (n - 1) / 2 ≡ n / 2 - 1
half n none =
    elim (cases_eq (bit_at n 0) 1) [ inl low ↦ absurd (none low) | inr rest ↦ omega (arith, rest, bit_at-lt n 0, bit_at_lowest n) ]

gone : (k n : ℕ) → Has n k → ((i : ℕ) → i < k → Has n i → ⊥) → bit_at (n - 1) k ≡ 0
gone zero n h first = omega (arith, h, bit_at_lowest n, bit_at_lowest (n - 1))
gone (suc k) n h first =
    bit_at-suc (n - 1) k ∙ ap (λ (m : ℕ). bit_at m k) (half n (first 0 (omega arith))) ∙
    gone k (n / 2) (sym (bit_at-suc n k) ∙ h) (λ i l a. first (suc i) (omega (arith, l)) (bit_at-suc n i ∙ a))

same : (k j n : ℕ) → Has n k → ((i : ℕ) → i < k → Has n i → ⊥) → j ≢ k → Has n j → Has (n - 1) j
same zero zero n h first other has = absurd (other refl)
same zero (suc j) n h first other has = search (rules, bit_at_lowest, bit_at-suc)
same (suc k) zero n h first other has = absurd (first 0 (omega arith) has)
same (suc k) (suc j) n h first other has =
    bit_at-suc (n - 1) j ∙ ap (λ (m : ℕ). bit_at m j) (half n (first 0 (omega arith))) ∙
    same k j (n / 2) (sym (bit_at-suc n k) ∙ h) (λ i l a. first (suc i) (omega (arith, l)) (bit_at-suc n i ∙ a)) (λ e. other (ap suc e))
    (sym (bit_at-suc n j) ∙ has)

pub returns-clause-rest : goal.returns-clause-rest
returns-clause-rest g k has first = grind (arith, bit_at_and, bit_at-lt, gone, same, true≢false)
