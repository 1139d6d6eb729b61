-- What `find` yields, by the indices of the elements.
use Rattle.std.proofs.Common.{◌≡◌, ℕ, zero, suc, ◌<◌, Bool, true, false, List, [], ◌∷◌, length, get_or, Some, None, refl, arith, map, zero-add}
use Rattle.std.specs.Prelude.{find}
use Rattle.std.specs.List.{range_with_len}
use Rattle.std.proofs.lemmas.List.FromFn.{get_or-map-range_with_len, get_or-range_with_len, length-map-range_with_len, length-range_with_len}

-- the first element that passes is found
pub find-first : {X : Type 0} (p : X → Bool) (xs : List X) (i : ℕ) (d : X) → i < length xs → p (get_or xs i d) ≡ true
    → ((k : ℕ) → k < i → p (get_or xs k d) ≡ false) → find p xs ≡ Some (get_or xs i d)
find-first p [] i d l hit before = absurd (omega arith)
find-first p (x ∷ xs) zero d l hit before = rw hit refl
find-first p (x ∷ xs) (suc i) d l hit before =
    let head : p x ≡ false = before 0 (omega arith) in
    rw head (find-first p xs i d (omega arith) hit (λ k low. before (suc k) (omega arith)))

-- if no element passes, none is found
pub find-none : {X : Type 0} (p : X → Bool) (xs : List X) (d : X) → ((k : ℕ) → k < length xs → p (get_or xs k d) ≡ false) →
    find p xs ≡ None
find-none p [] d h = refl
find-none p (x ∷ xs) d h =
    let head : p x ≡ false = h 0 (omega arith) in
    rw head (find-none p xs d (λ k low. h (suc k) (omega arith)))

-- if none is found, no element passes
pub find-each : {X : Type 0} (p : X → Bool) (xs : List X) (k : ℕ) (d : X) → find p xs ≡ None → k < length xs →
    p (get_or xs k d) ≡ false
find-each p [] k d e l = absurd (omega arith)
find-each p (x ∷ xs) k d e l = by (p x) refl k l (λ j rest m. find-each p xs j d rest m)
  where
    by : (t : Bool) → p x ≡ t → (k : ℕ) → k < suc (length xs) →
        ((j : ℕ) → find p xs ≡ None → j < length xs → p (get_or xs j d) ≡ false) → p (get_or (x ∷ xs) k d) ≡ false
    by true is k l rest = let found : find p (x ∷ xs) ≡ Some x = rw is refl in absurd (cc)
    by false is zero l rest = is
    by false is (suc k) l rest = rest k (rw is at e) (omega arith)

-- tests that agree on each element find the same
pub find-same : {X : Type 0} (p q : X → Bool) (xs : List X) (d : X) →
    ((k : ℕ) → k < length xs → p (get_or xs k d) ≡ q (get_or xs k d)) → find p xs ≡ find q xs
find-same p q [] d h = refl
find-same p q (x ∷ xs) d h =
    let head : p x ≡ q x = h 0 (omega arith) in
    rw (head, find-same p q xs d (λ k l. h (suc k) (omega arith))) refl

range_at : (n k : ℕ) → k < n → get_or (range_with_len 0 n) k 0 ≡ k
range_at n k l = grind (arith, get_or-range_with_len 0 n k 0 l, zero-add)

-- element `k` of the images of `n` numbers
pub image_at : {X : Type 0} (f : ℕ → X) (n k : ℕ) (d : X) → k < n → get_or (map f (range_with_len 0 n)) k d ≡ f k
image_at f n k d l = get_or-map-range_with_len f 0 n k k d l (zero-add k)

-- the first of `n` numbers that passes
pub find-range : (p : ℕ → Bool) (n i : ℕ) → i < n → p i ≡ true → ((k : ℕ) → k < i → p k ≡ false) → find p (range_with_len 0 n) ≡ Some i
find-range p n i l hit before =
    let found = find-first p (range_with_len 0 n) i 0 (rw (length-range_with_len 0 n) l) (rw (range_at n i l) hit)
    (λ k low. rw (range_at n k (omega arith)) (before k low)) in
    rw (range_at n i l) at found

-- none of `n` numbers passes
pub find-range_none : (p : ℕ → Bool) (n : ℕ) → ((k : ℕ) → k < n → p k ≡ false) → find p (range_with_len 0 n) ≡ None
find-range_none p n h = find-none p (range_with_len 0 n) 0 (λ k l.
    let low : k < n = rw (length-range_with_len 0 n) at l in rw (range_at n k low) (h k low))

pub find-range_each : (p : ℕ → Bool) (n k : ℕ) → find p (range_with_len 0 n) ≡ None → k < n → p k ≡ false
find-range_each p n k e l = rw (range_at n k l) at (find-each p (range_with_len 0 n) k 0 e (rw (length-range_with_len 0 n) l))

-- the first image of `n` numbers that passes
pub find-image : {X : Type 0} (p : X → Bool) (f : ℕ → X) (n i : ℕ) → i < n → p (f i) ≡ true → ((k : ℕ) → k < i → p (f k) ≡ false) →
    find p (map f (range_with_len 0 n)) ≡ Some (f i)
find-image p f n i l hit before =
    let found = find-first p (map f (range_with_len 0 n)) i (f i) (rw (length-map-range_with_len f 0 n) l) (rw (image_at f n i (f i) l) hit)
    (λ k low. rw (image_at f n k (f i) (omega arith)) (before k low)) in
    rw (image_at f n i (f i) l) at found

pub find-image_none : {X : Type 0} (p : X → Bool) (f : ℕ → X) (n : ℕ) → ((k : ℕ) → k < n → p (f k) ≡ false) →
    find p (map f (range_with_len 0 n)) ≡ None
find-image_none p f n h = find-none p (map f (range_with_len 0 n)) (f 0) (λ k l.
    let low : k < n = rw (length-map-range_with_len f 0 n) at l in rw (image_at f n k (f 0) low) (h k low))

pub find-image_each : {X : Type 0} (p : X → Bool) (f : ℕ → X) (n k : ℕ) → find p (map f (range_with_len 0 n)) ≡ None → k < n →
    p (f k) ≡ false
find-image_each p f n k e l =
    rw (image_at f n k (f 0) l) at (find-each p (map f (range_with_len 0 n)) k (f 0) e (rw (length-map-range_with_len f 0 n) l))

-- tests that agree on the images of `n` numbers find the same
pub find-image_same : {X : Type 0} (p q : X → Bool) (f : ℕ → X) (n : ℕ) → ((k : ℕ) → k < n → p (f k) ≡ q (f k)) →
    find p (map f (range_with_len 0 n)) ≡ find q (map f (range_with_len 0 n))
find-image_same p q f n h = find-same p q (map f (range_with_len 0 n)) (f 0) (λ k l.
    let low : k < n = rw (length-map-range_with_len f 0 n) at l in rw (image_at f n k (f 0) low) (h k low))
