-- Floods, intersections, unions and shifts of masks whose properties are known.
use Rattle.std.proofs.Common.{rules, ℕ, zero, suc, ◌≤◌, ◌⊎◌, arith}
use Rattle.bit_sets.specs.Masks.{Has, IsMaskOf, IsShifted, IsFlooded}
use Rattle.bit_sets.proofs.Steps.{mask_same}

-- whether an index is flooded depends only on the indices up to it
pub flooded_within : (P Q R S : ℕ → Type 0) (i : ℕ) → ((k : ℕ) → k ≤ i → P k → R k) → ((k : ℕ) → k ≤ i → Q k → S k) → IsFlooded P Q i
    → IsFlooded R S i
flooded_within P Q R S zero f g h = grind arith
flooded_within P Q R S (suc i) f g h = grind (arith, flooded_within P Q R S i)

-- floods of equivalent sources and free indices are the same
pub flood_same : (P Q R S : ℕ → Type 0) (m : ℕ) → ((i : ℕ) → P i → R i) → ((i : ℕ) → R i → P i) → ((i : ℕ) → Q i → S i)
    → ((i : ℕ) → S i → Q i)
    → IsMaskOf (IsFlooded P Q) m → IsMaskOf (IsFlooded R S) m
flood_same P Q R S m a b c d p =
    search (rules, mask_same, flooded_within)

-- a flood from the indices of a mask is one from the property of that mask
pub flood_from : (P Free : ℕ → Type 0) (sources m : ℕ) → IsMaskOf P sources → IsMaskOf (IsFlooded (Has sources) Free) m
    → IsMaskOf (IsFlooded P Free) m
flood_from P Free sources m p = flood_same (Has sources) Free P Free m p.to p.from (λ i h. h) (λ i h. h)

-- the intersection of the masks of two properties is the mask of both
pub meet_of : (P Q : ℕ → Type 0) (a b m : ℕ) → IsMaskOf P a → IsMaskOf Q b → IsMaskOf (λ i. Has a i × Has b i) m
    → IsMaskOf (λ i. P i × Q i) m
meet_of P Q a b m p q r = grind arith

-- the union of the masks of two properties is the mask of either
pub join_of : (P Q : ℕ → Type 0) (a b m : ℕ) → IsMaskOf P a → IsMaskOf Q b → IsMaskOf (λ i. Has a i ⊎ Has b i) m
    → IsMaskOf (λ i. P i ⊎ Q i) m
join_of P Q a b m p q r = grind arith

pub shifted_of : (w : ℕ) (P : ℕ → Type 0) (a by m : ℕ) → IsMaskOf P a → IsMaskOf (IsShifted w (Has a) by) m → IsMaskOf (IsShifted w P by) m
shifted_of w P a by m p q = grind arith

-- a mask is the set of its own indices
pub has_of : (a : ℕ) → IsMaskOf (Has a) a
has_of a = grind arith
