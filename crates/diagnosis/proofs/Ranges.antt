-- What passes a test among the first numbers, with one number more.
use Rattle.std.proofs.Common.{◌≡◌, ℕ, ◌+◌, Bool, cond, List, [], ◌∷◌, ◌++◌, map, refl, ap, arith}
use Rattle.std.specs.List.{filter, list_any, range_with_len}
use Rattle.std.specs.Prelude.{false, ◌||◌}
use Rattle.std.proofs.lemmas.List.FromFn.{filter_of_map_range_with_len_more, map-range_with_len_more}
use Rattle.std.proofs.lemmas.List.Folds.{list_any-append}

pub map_same : (xs : List ℕ) → map (λ (k : ℕ). k) xs ≡ xs
map_same [] = refl
map_same (x ∷ xs) = ap (λ ys. x ∷ ys) (map_same xs)

-- the first `n + 1` numbers are the first `n`, and `n`
pub range_more : (n : ℕ) → range_with_len 0 (n + 1) ≡ range_with_len 0 n ++ n ∷ []
range_more n =
    let e = map-range_with_len_more (λ (k : ℕ). k) 0 n n (omega arith) in
    simp map_same at e

-- those of the first `n + 1` numbers that pass
pub filter-range_more : (p : ℕ → Bool) (n : ℕ) →
    filter p (range_with_len 0 (n + 1)) ≡ filter p (range_with_len 0 n) ++ cond (p n) (n ∷ []) []
filter-range_more p n =
    let e = filter_of_map_range_with_len_more p (λ (k : ℕ). k) 0 n n (omega arith) in
    simp map_same at e

-- whether one of the first `n + 1` numbers passes
pub any-range_more : (p : ℕ → Bool) (n : ℕ) → list_any p (range_with_len 0 (n + 1)) ≡ (list_any p (range_with_len 0 n) || (p n || false))
any-range_more p n = rw (range_more n) (list_any-append p (range_with_len 0 n) (n ∷ []))
