-- The filled cells of all rows are as many as those of all columns.
use Rattle.std.proofs.Common.{◌≡◌, ℕ, zero, suc, ◌+◌, ◌*◌, ◌<◌, Bool, false, cond, List, [], ◌∷◌, length, get_or, refl, ap, sym, ◌∙◌, arith}
use Rattle.std.specs.List.{sum_by}
use Rattle.grid_core.specs.Nonogram.{cells_at, strided_indices}
use Rattle.diagnosis.proofs.RunSizes.{filled_count, filled_count-cons}
use Rattle.std.proofs.lemmas.List.Sums.{sum_by-cons}

-- the sum of `f 0`, `f 1` and so on; the last argument is how many they are
abbrev pub total : (ℕ → ℕ) → ℕ → ℕ
total f zero = 0
total f (suc n) = total f n + f n

pub total-same : (f g : ℕ → ℕ) (n : ℕ) → ((k : ℕ) → k < n → f k ≡ g k) → total f n ≡ total g n
total-same f g zero h = refl
total-same f g (suc n) h =
    let rest = total-same f g n (λ k l. h k (omega arith)) in
    let last = h n (omega arith) in
    omega (arith, rest, last)

total-zero : (n : ℕ) → total (λ (k : ℕ). 0) n ≡ 0
total-zero zero = refl
total-zero (suc n) = omega (arith, total-zero n)

total-add : (f g : ℕ → ℕ) (n : ℕ) → total (λ (k : ℕ). f k + g k) n ≡ total f n + total g n
total-add f g zero = refl
total-add f g (suc n) = omega (arith, total-add f g n)

-- the sums of the rows of a table add up to what those of its columns do
pub total-exchange : (f : ℕ → ℕ → ℕ) (m n : ℕ) → total (λ (y : ℕ). total (f y) m) n ≡ total (λ (x : ℕ). total (λ (y : ℕ). f y x) n) m
total-exchange f m zero = sym (total-zero m)
total-exchange f m (suc n) =
    ap (λ (s : ℕ). s + total (f n) m) (total-exchange f m n) ∙ sym (total-add (λ (x : ℕ). total (λ (y : ℕ). f y x) n) (f n) m)

total-first : (f : ℕ → ℕ) (n : ℕ) → total f (suc n) ≡ f 0 + total (λ (k : ℕ). f (suc k)) n
total-first f zero = omega arith
total-first f (suc n) = omega (arith, total-first f n)

-- the sum over a list is that over its indices
pub sum_by-total : (f : List ℕ → ℕ) (xs : List (List ℕ)) → sum_by f xs ≡ total (λ (k : ℕ). f (get_or xs k [])) (length xs)
sum_by-total f [] = refl
sum_by-total f (x ∷ xs) =
    let first = total-first (λ (k : ℕ). f (get_or (x ∷ xs) k [])) (length xs) in
    omega (arith, first, sum_by-cons f x xs, sum_by-total f xs)

-- 1 for a filled cell, 0 for any other
abbrev pub one_if_filled : List Bool → ℕ → ℕ
one_if_filled full k = cond (get_or full k false) 1 0

-- the filled cells of a line, counted by their indices
pub filled-total : (full : List Bool) (first step n : ℕ) →
    filled_count (cells_at false full (strided_indices first step n)) ≡ total (λ (k : ℕ). one_if_filled full (first + k * step)) n
filled-total full first step zero = refl
filled-total full first step (suc n) =
    let f : ℕ → ℕ = λ (k : ℕ). one_if_filled full (first + k * step) in
    let rest = filled-total full (first + step) step n in
    let same = total-same (λ (k : ℕ). one_if_filled full (first + step + k * step)) (λ (k : ℕ). f (suc k)) n
    (λ k l. let e : first + step + k * step ≡ first + suc k * step = omega arith in ap (one_if_filled full) e) in
    let here : first ≡ first + 0 * step = omega arith in
    let start = ap (one_if_filled full) here in
    let whole = filled_count-cons (get_or full first false) (cells_at false full (strided_indices (first + step) step n)) in
    omega (arith, whole, rest, same, start, total-first f n)
