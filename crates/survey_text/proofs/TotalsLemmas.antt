-- Lemmas on totals with one more entry.
use Rattle.std.proofs.Common.{◌≡◌, ℕ, ◌+◌, Bool, true, false, cond, List, [], ◌∷◌, ◌++◌, count_by, ◌∙◌, arith}
use Rattle.std.proofs.lemmas.List.Sums.{sum_by-append}
use Rattle.survey_text.specs.steps.Tallies.{one_more_where}

-- adding a sum that is 1 if the test is true adds one more if it is
one_more_is : (b : Bool) (n : ℕ) → n + (0 + cond b 1 0) ≡ one_more_where b n
one_more_is true n = omega arith
one_more_is false n = omega arith

-- with one more element at the end, the number of elements that pass a test grows by 1 if that one does
pub count_push : {X : Type 0} (p : X → Bool) (xs : List X) (x : X) → count_by p (xs ++ x ∷ []) ≡ one_more_where (p x) (count_by p xs)
count_push p xs x = sum_by-append (λ y. cond (p y) 1 0) xs (x ∷ []) ∙ one_more_is (p x) (count_by p xs)
