-- Lemmas on lists that are made from numbered items and joined.
use Rattle.std.proofs.Common.{◌≡◌, ℕ, suc, zero, ◌+◌, ◌<◌, List, [], ◌∷◌, ◌++◌, length, map, take, get_or, append_assoc, append-nil, arith}
use Rattle.std.proofs.lemmas.List.{length-map, length-take, map_more}
use Rattle.std.specs.List.{enumerate_from, flat_map}

-- two lists of items, the second numbered on, yield what the first yields, followed by what the second does
pub numbered-append : {X Y : Type 0} (f : ℕ × X → List Y) (n : ℕ) (xs ys : List X)
    → flat_map f (enumerate_from n (xs ++ ys)) ≡ flat_map f (enumerate_from n xs) ++ flat_map f (enumerate_from (n + length xs) ys)
numbered-append f n [] ys = let number : n + zero ≡ n = omega arith in rw number
numbered-append f n (x ∷ xs) ys =
    let number : n + suc (length xs) ≡ n + 1 + length xs = omega arith in
    rw (numbered-append f (n + 1) xs ys, number, append_assoc)

-- one more item at the end appends what it yields with its number
pub numbered-push : {X Y : Type 0} (f : ℕ × X → List Y) (n : ℕ) (xs : List X) (x : X)
    → flat_map f (enumerate_from n (xs ++ x ∷ [])) ≡ flat_map f (enumerate_from n xs) ++ f (n + length xs, x)
numbered-push f n xs x = rw (numbered-append f n xs (x ∷ []), append-nil (f (n + length xs, x)))

-- one more of the first items of `xs`, each mapped by `h`, appends what it yields with its number
pub made-more : {X Y Z : Type 0} (f : ℕ × Y → List Z) (h : X → Y) (n : ℕ) (xs : List X) (i : ℕ) (d : X) → i < length xs
    → flat_map f (enumerate_from n (map h (take (i + 1) xs))) ≡ flat_map f (enumerate_from n (map h (take i xs))) ++
    f (n + i, h (get_or xs i d))
made-more f h n xs i d within =
    let count : length (map h (take i xs)) ≡ i = omega (arith, length-map (take i xs) h, length-take i xs) in
    rw (map_more h xs i d within, numbered-push f n (map h (take i xs)) (h (get_or xs i d)), count)
