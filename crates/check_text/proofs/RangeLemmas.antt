-- Lemmas on the texts of ranges of numbers.
use Rattle.std.proofs.Common.{◌≡◌, ℕ, zero, suc, ◌+◌, List, [], ◌∷◌, ◌++◌, ap, ◌∙◌, append-nil, add-one, arith}
use Rattle.std.specs.List.{flat_map, range_with_len}
use Rattle.std.proofs.lemmas.Grind.{flat_map-append}

-- a range that is longer by one ends with the number `j` that comes next
range-more : (a n j : ℕ) → a + n ≡ j → range_with_len a (suc n) ≡ range_with_len a n ++ j ∷ []
range-more a zero j e = let start : a ≡ j = omega arith in ap (λ (k : ℕ). k ∷ []) start
range-more a (suc n) j e = ap (λ (others : List ℕ). a ∷ others) (range-more (a + 1) n j (omega arith))

-- the text of a range that is longer by one ends with that of the next number `j`
pub flat_map_more : (f : ℕ → List ℕ) (a n j : ℕ) → a + n ≡ j
    → flat_map f (range_with_len a (n + 1)) ≡ flat_map f (range_with_len a n) ++ f j
flat_map_more f a n j e =
    ap (flat_map f) (ap (range_with_len a) (add-one n) ∙ range-more a n j e)
    ∙ rw (flat_map-append f (range_with_len a n) (j ∷ []), append-nil (f j))
