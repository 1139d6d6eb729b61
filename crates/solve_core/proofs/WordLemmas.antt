-- The indices of a set that are in one of its 64-bit words.
use Rattle.solve_core.proofs.Names.{◌≢◌, ◌+◌, ◌-◌, ◌<◌, ℕ, false, inl, inr, sym, arith, subst, true≢false, Has, IsWithBit, IsMaskOf, IsIn, rules}

-- `word` has the indices of the set `places` from `from` on, counted from there
abbrev WordFrom : ℕ → ℕ → ℕ → Type 0
WordFrom indices from word = IsMaskOf (λ x. (x < 64) × Has indices (x + from)) word

pub in_word : (indices from word k : ℕ) → WordFrom indices from word → IsIn indices from k → Has word (k - from)
in_word indices from word k mask is = mask.from (k - from) (omega (arith, is), subst (Has indices) (omega (arith, is)) is.0)

pub of_word : (indices from word x : ℕ) → WordFrom indices from word → Has word x → IsIn indices from (from + x)
of_word indices from word x mask has = search (rules)

-- the indices that are left after `k` was removed differ from `k`
pub stays : (left next k : ℕ) → IsMaskOf (IsWithBit (Has left) k false) next → (j : ℕ) → Has next j → Has left j × (j ≢ k)
stays left next k marked j h = elim (marked.to j h) [ inl kept ↦ kept | inr gone ↦ absurd (true≢false (sym gone.1)) ]
