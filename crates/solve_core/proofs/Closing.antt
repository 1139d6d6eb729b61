-- Repeating a step that only adds known cells: bounds of the result, and when it is a fixpoint.
use Rattle.solve_core.proofs.Names.{◌≡◌, ℕ, zero, suc, ◌<◌, ◌≤◌, ◌⊎◌, inl, inr, List, [], ◌∷◌, length, Option, Some, None, refl, ap, arith, option_and_then, Cell, Unknown, Filled, Blank, Extends, repeat, unknown_count, AtMost, AtMost-trans, Extends-refl, rules}

-- `f` only adds known cells, and yields no less for a grid that knows more
pub record IsDeduction (f : List Cell → Option (List Cell)) : Type 0 where
  pub above : (g : List Cell) → AtMost (Some g) (f g)
  pub monotone : (g z : List Cell) → Extends g z → AtMost (f g) (f z)

-- a step `h` that only adds known cells yields at least `g` from an outcome that is at least `g`
pub and_then-above : (h : List Cell → Option (List Cell)) → ((g : List Cell) → AtMost (Some g) (h g)) →
    (g : List Cell) (o : Option (List Cell)) → AtMost (Some g) o → AtMost (Some g) (option_and_then h o)
and_then-above h a g None k = tt
and_then-above h a g (Some z) k = AtMost-trans (Some g) (Some z) (h z) k (a z)

-- if `h` stays below `z` from each grid below `z`, it does so from an outcome below `z`
pub and_then-below : (h : List Cell → Option (List Cell)) (z : List Cell) → ((g : List Cell) → Extends g z → AtMost (h g) (Some z)) →
    (o : Option (List Cell)) → AtMost o (Some z) → AtMost (option_and_then h o) (Some z)
and_then-below h z k o l = search rules

-- repeating a step that only adds known cells yields at least the first grid
pub repeat-above : (f : List Cell → Option (List Cell)) → ((g : List Cell) → AtMost (Some g) (f g)) → (n : ℕ) (g : List Cell) →
    AtMost (Some g) (repeat f n g)
repeat-above f a zero g = Extends-refl g
repeat-above f a (suc n) g = and_then-above (repeat f n) (repeat-above f a n) g (f g) (a g)

-- repeating a step that stays below `z` yields a grid below `z`
pub repeat-below : (f : List Cell → Option (List Cell)) (z : List Cell) → ((g : List Cell) → Extends g z → AtMost (f g) (Some z)) →
    (n : ℕ) (g : List Cell) → Extends g z → AtMost (repeat f n g) (Some z)
repeat-below f z b zero g h = h
repeat-below f z b (suc n) g h = and_then-below (repeat f n) z (repeat-below f z b n) (f g) (b g h)

-- repeating a deduction stays below each of its fixpoints `z` that extends the first grid
pub repeat-least : (f : List Cell → Option (List Cell)) → IsDeduction f → (n : ℕ) (g z : List Cell) → f z ≡ Some z → Extends g z →
    AtMost (repeat f n g) (Some z)
repeat-least f d n g z closed h = repeat-below f z (λ g' k. let m = d.monotone g' z k in rw closed at m) n g h

-- repeating a step leaves each of its fixpoints unchanged
pub repeat-fixed : (f : List Cell → Option (List Cell)) (n : ℕ) (g : List Cell) → f g ≡ Some g → repeat f n g ≡ Some g
repeat-fixed f zero g e = refl
repeat-fixed f (suc n) g e = rw e (repeat-fixed f n g e)

-- the number of unknown cells is at most the number of cells
pub unknown_count-le : (g : List Cell) → unknown_count g ≤ length g
unknown_count-le [] = omega arith
unknown_count-le (Unknown ∷ g) = omega (arith, unknown_count-le g)
unknown_count-le (_ ∷ g) = omega (arith, unknown_count-le g)

-- a grid that extends `g` is `g` itself, or has fewer unknown cells
pub fewer_unknown : (g z : List Cell) → Extends g z → (z ≡ g) ⊎ (unknown_count z < unknown_count g)
fewer_unknown [] [] h = inl refl
fewer_unknown (Unknown ∷ g) (Unknown ∷ z) h = search (rules, (fewer_unknown g z h.1))
fewer_unknown (Filled ∷ g) (Filled ∷ z) h = search (rules, (fewer_unknown g z h.1))
fewer_unknown (Blank ∷ g) (Blank ∷ z) h = elim (fewer_unknown g z h.1) [ inl e ↦ inl (ap (λ (r : List Cell). Blank ∷ r) e) | inr l ↦ inr l ]
fewer_unknown (Unknown ∷ g) (_ ∷ z) h = search (rules, unknown_count, (fewer_unknown g z h.1))
fewer_unknown (_ ∷ g) (_ ∷ z) h = absurd h.0
fewer_unknown _ _ h = absurd h

closed_after : (f : List Cell → Option (List Cell)) (n : ℕ) (g c : List Cell) (o : Option (List Cell)) → f g ≡ o → AtMost (Some g) o →
    option_and_then (repeat f n) o ≡ Some c
    → ((g' : List Cell) → unknown_count g' < unknown_count g → repeat f n g' ≡ Some c → f c ≡ Some c) → f c ≡ Some c
closed_after f n g c o h k l m = search (rules, fewer_unknown, repeat-fixed)

-- after more repetitions than there are unknown cells, the result is a fixpoint
pub repeat-closed : (f : List Cell → Option (List Cell)) → ((g : List Cell) → AtMost (Some g) (f g)) → (n : ℕ) (g c : List Cell) →
    unknown_count g < n → repeat f n g ≡ Some c → f c ≡ Some c
repeat-closed f a zero g c h e = absurd (omega arith)
repeat-closed f a (suc n) g c h e = closed_after f n g c (f g) refl (a g) e (λ g' less e'. repeat-closed f a n g' c (omega arith) e')
