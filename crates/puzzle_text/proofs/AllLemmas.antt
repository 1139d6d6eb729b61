-- Lemmas on what holds of each element of a list, on filters, and on checks of each element in turn.
use Rattle.std.proofs.Common.{◌≡◌, Bool, List, Ok, Option, Result, [], ap, drop, false, filter, map, option_map, refl, rules, true, ◌++◌, ◌∷◌}
use Rattle.std.proofs.lemmas.Bool.{and_parts}
use Rattle.std.specs.List.{AllByRecursion, flat_map, list_all}
use Rattle.puzzle_text.specs.Answers.{each, ◌>>=◌}
use Rattle.puzzle_text.specs.declared.faults.TextFault.{TextFault}

module _ {X : Type 0} (P : X → Type 0) where
  -- What holds of the elements of two lists holds of the elements of both together.
  pub all-append : (xs ys : List X) → AllByRecursion P xs → AllByRecursion P ys → AllByRecursion P (xs ++ ys)
  all-append [] ys p q = q
  all-append (x ∷ xs) ys p q = (p.0, all-append xs ys p.1 q)

  -- If `P x` implies `Q (f x)`, and `P` holds of each element, then `Q` holds of each element of `map f xs`.
  pub all-map : {Y : Type 0} (Q : Y → Type 0) (f : X → Y) → ((x : X) → P x → Q (f x)) → (xs : List X) → AllByRecursion P xs
      → AllByRecursion Q (map f xs)
  all-map Q f next [] h = tt
  all-map Q f next (x ∷ xs) h = (next x h.0, all-map Q f next xs h.1)

  pub all-weaker : (Q : X → Type 0) → ((x : X) → P x → Q x) → (xs : List X) → AllByRecursion P xs → AllByRecursion Q xs
  all-weaker Q next [] h = tt
  all-weaker Q next (x ∷ xs) h = (next x h.0, all-weaker Q next xs h.1)

-- If `P` holds of all elements of each `f x`, it holds of all elements of `flat_map f xs`.
pub all-flat_map : {X Y : Type 0} (P : Y → Type 0) (f : X → List Y) → ((x : X) → AllByRecursion P (f x)) → (xs : List X)
    → AllByRecursion P (flat_map f xs)
all-flat_map P f each [] = tt
all-flat_map P f each (x ∷ xs) = all-append P (f x) (flat_map f xs) (each x) (all-flat_map P f each xs)

module _ {X : Type 0} (p : X → Bool) where
  -- If the test `p` implies `Q`, and all elements pass the test, then `Q` holds of each.
  pub all_pass : (Q : X → Type 0) → ((x : X) → p x ≡ true → Q x) → (xs : List X) → list_all p xs ≡ true → AllByRecursion Q xs
  all_pass Q next [] h = tt
  all_pass Q next (x ∷ xs) h = search (rules, all_pass Q next xs, and_parts)

  -- A filter keeps all elements if all pass, and none if none does.
  pub filter_all : (xs : List X) → AllByRecursion (λ x. p x ≡ true) xs → filter p xs ≡ xs
  filter_all [] h = refl
  filter_all (x ∷ xs) h = rw h.0 (ap (λ ys. x ∷ ys) (filter_all xs h.1))

  pub filter_none : (xs : List X) → AllByRecursion (λ x. p x ≡ false) xs → filter p xs ≡ []
  filter_none [] h = refl
  filter_none (x ∷ xs) h = rw h.0 (filter_none xs h.1)

-- ---- checks of each element in turn, as a loop makes them

-- the result of all checks, if the first ones had the values `front`, and `rest` is the result of the others
abbrev pub with_front : {Y : Type 0} → List Y → Result (List Y) TextFault → Result (List Y) TextFault
with_front front rest = rest >>= λ ys. Ok (front ++ ys)

-- the values at all elements, if the first ones had the values `front`, and `rest` are those of the others
abbrev pub some_with_front : {Y : Type 0} → List Y → Option (List Y) → Option (List Y)
some_with_front front rest = option_map (λ ys. front ++ ys) rest

pub each-map : {A X Y : Type 0} (step : X → Result Y TextFault) (view : A → X) (xs : List A)
    → each step (map view xs) ≡ each (λ a. step (view a)) xs
each-map step view [] = refl
each-map step view (x ∷ xs) = ap (λ others. step (view x) >>= λ y. others >>= λ ys. Ok (y ∷ ys)) (each-map step view xs)

-- Before the first element, the result of the checks to come is the result of all.
pub each_begins : {A X Y : Type 0} (step : X → Result Y TextFault) (view : A → X) (xs : List A)
    → with_front [] (each (λ a. step (view a)) (drop 0 xs)) ≡ each step (map view xs)
each_begins step view xs = search (rules, each-map)
