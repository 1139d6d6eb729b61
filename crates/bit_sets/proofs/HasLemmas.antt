-- The two forms of membership in a mask: the test `has` and the proposition `Has`.
use Rattle.std.proofs.Common.{◌≡◌, ℕ, true, refl, eqb-true}
use Rattle.bit_sets.specs.Masks.{Has, has}

-- the test is true of each index in the mask
pub has_true : (m i : ℕ) → Has m i → has m i ≡ true
has_true m i h = rw h refl

-- an index of which the test is true is in the mask
pub true_has : (m i : ℕ) → has m i ≡ true → Has m i
true_has m i h = eqb-true _ _ h
