-- A search finds each solution that extends its grid, once, and nothing else.
use Rattle.solve_core.proofs.Names.{◌≡◌, ℕ, zero, suc, ◌+◌, ◌<◌, ◌≤◌, ◌⊎◌, inl, inr, Bool, true, false, List, [], ◌∷◌, ◌++◌, length, get_or, set, map, Option, Some, None, refl, sym, ap, ◌∙◌, arith, length-set, true≢false, add-one, take, cases_lt, lt-ltb, fails_before_first, position-Some, length-map, Cell, Unknown, Filled, Blank, CellExtends, Extends, colour, is_unknown, is_filled, GridLine, closure, Event, Guess, Solution, IsPick, first_unknown, guess_at, search_from, events_within, events, solutions_in, through_solution, Extends-refl, Extends-trans, length-Extends, Extends-antisym, unknown_count, Extends-at, Extends-from_places, get_or-map_colour, rules}
use Rattle.solve_core.proofs.Order.{set_extends, set_within}
use Rattle.solve_core.proofs.Closing.{unknown_count-le, fewer_unknown}
use Rattle.solve_core.proofs.TrailSteps.{count-settled}
use Rattle.solve_core.proofs.ClosureLaws.{MeetsLines, AreInRange, full-meets, closure-below, closure-IsLeastClosed}

-- the grid is one of a list
abbrev pub IsAmong : List Cell → List (List Cell) → Type 0
IsAmong s [] = ⊥
IsAmong s (x ∷ xs) = (x ≡ s) ⊎ IsAmong s xs

pub IsAmong-left : (s : List Cell) (xs ys : List (List Cell)) → IsAmong s xs → IsAmong s (xs ++ ys)
IsAmong-left s [] ys h = absurd h
IsAmong-left s (x ∷ xs) ys h = elim h [ inl e ↦ inl e | inr k ↦ inr (IsAmong-left s xs ys k) ]

IsAmong-right : (s : List Cell) (xs ys : List (List Cell)) → IsAmong s ys → IsAmong s (xs ++ ys)
IsAmong-right s [] ys h = h
IsAmong-right s (x ∷ xs) ys h = inr (IsAmong-right s xs ys h)

pub solutions_in-append : (es fs : List Event) → solutions_in (es ++ fs) ≡ solutions_in es ++ solutions_in fs
solutions_in-append [] fs = refl
solutions_in-append (Guess ∷ es) fs = solutions_in-append es fs
solutions_in-append (Solution s ∷ es) fs = λ i. s ∷ solutions_in-append es fs i

IsAmong-split : (s : List Cell) (xs ys : List (List Cell)) → IsAmong s (xs ++ ys) → IsAmong s xs ⊎ IsAmong s ys
IsAmong-split s [] ys h = inr h
IsAmong-split s (x ∷ xs) ys (inl e) = inl (inl e)
IsAmong-split s (x ∷ xs) ys (inr h) = elim (IsAmong-split s xs ys h) [ inl k ↦ inl (inr k) | inr k ↦ inr k ]

pub guess_solutions : (below : List Cell → List Event) (c : List Cell) (k : ℕ) →
    solutions_in (guess_at below c (Some k)) ≡ solutions_in (below (set c k Filled)) ++ solutions_in (below (set c k Blank))
guess_solutions below c k = solutions_in-append (Guess ∷ below (set c k Filled)) (Guess ∷ below (set c k Blank))

-- a cell for which `is_unknown` holds is `Unknown`
pub unknown_is : (c : Cell) → is_unknown c ≡ true → c ≡ Unknown
unknown_is c h = search rules

-- a cell that extends a known cell is equal to it
pub same_known : (c d : Cell) → is_unknown c ≡ false → CellExtends c d → d ≡ c
same_known c d h k = search rules

-- a grid that extends another one has at most as many unknown cells
pub unknown_count-more : (g z : List Cell) → Extends g z → unknown_count z ≤ unknown_count g
unknown_count-more g z h = elim (fewer_unknown g z h) [ inl e ↦ omega (arith, ap unknown_count e) | inr l ↦ omega arith ]

-- a grid without unknown cells is the full grid of its colours
full_is : (c : List Cell) → ((k : ℕ) → k < length c → is_unknown (get_or c k Unknown) ≡ false) → c ≡ map colour (map is_filled c)
full_is [] h = refl
full_is (Unknown ∷ c) h = absurd (true≢false (h 0 (omega arith)))
full_is (Filled ∷ c) h = λ i. Filled ∷ full_is c (λ k l. h (suc k) (omega arith)) i
full_is (Blank ∷ c) h = λ i. Blank ∷ full_is c (λ k l. h (suc k) (omega arith)) i

-- `s` is a full grid that meets the lines and extends `g`
pub record IsSolutionAbove (lines : List GridLine) (g s : List Cell) : Type 0 where
  pub full : List Bool
  pub is : s ≡ map colour full
  pub meets : MeetsLines lines full
  pub extends : Extends g s

-- no grid is in the list twice
abbrev pub AreDistinct : List (List Cell) → Type 0
AreDistinct [] = Unit {0}
AreDistinct (x ∷ xs) = (IsAmong x xs → ⊥) × AreDistinct xs

AreDistinct-append : (xs ys : List (List Cell)) → AreDistinct xs → AreDistinct ys → ((s : List Cell) → IsAmong s xs → IsAmong s ys → ⊥) →
    AreDistinct (xs ++ ys)
AreDistinct-append [] ys h k apart = k
AreDistinct-append (x ∷ xs) ys h k apart = (
  (λ m. elim (IsAmong-split x xs ys m) [ inl a ↦ h.0 a | inr b ↦ apart x (inl refl) b ]),
  AreDistinct-append xs ys h.1 k (λ s a b. apart s (inr a) b),
)

two_colours : (c : Cell) → CellExtends Filled c → CellExtends Blank c → ⊥
two_colours c h k = search rules

not_both : (c s : List Cell) (k : ℕ) → k < length c → Extends (set c k Filled) s → Extends (set c k Blank) s → ⊥
not_both [] s k l h e = absurd (omega arith)
not_both (x ∷ c) (y ∷ s) zero l h e = two_colours y h.0 e.0
not_both (x ∷ c) (y ∷ s) (suc k) l h e = not_both c s k (omega arith) h.1 e.1
not_both (x ∷ c) [] zero l h e = h
not_both (x ∷ c) [] (suc k) l h e = h

weaker : (lines : List GridLine) (g z s : List Cell) → Extends g z → IsSolutionAbove lines z s → IsSolutionAbove lines g s
weaker lines g z s h r = record { full = r.full; is = r.is; meets = r.meets; extends = Extends-trans g z s h r.extends }

module _ (pick : List Cell → Option ℕ) (lawful : IsPick pick) (lines : List GridLine) where
  -- induction over a search: `P` holds of the solutions found if it holds at depth 0, of a dead closure, of a full
  -- closure, and of the solutions found after both guesses of a picked cell
  module _ (P : ℕ → List Cell → List (List Cell) → Type 0) (deep : (g : List Cell) → P 0 g [])
      (dead : (n : ℕ) (g : List Cell) → closure lines g ≡ None → P (suc n) g [])
      (leaf : (n : ℕ) (g c : List Cell) → closure lines g ≡ Some c → pick c ≡ None → P (suc n) g (c ∷ []))
      (node : (n : ℕ) (g c : List Cell) (k : ℕ) → closure lines g ≡ Some c → Extends g c → k < length c → get_or c k Unknown ≡ Unknown →
      (xs ys : List (List Cell)) → P n (set c k Filled) xs → P n (set c k Blank) ys → P (suc n) g (xs ++ ys)) where
    each_found : (n : ℕ) (g : List Cell) → P n g (solutions_in (events_within pick n lines g))
    each_found zero g = deep g
    each_found (suc n) g = from (closure lines g) refl (each_found n)
      where
        at : (c : List Cell) → closure lines g ≡ Some c → ((z : List Cell) → P n z (solutions_in (events_within pick n lines z))) →
            (o : Option ℕ) → pick c ≡ o → P (suc n) g (solutions_in (guess_at (events_within pick n lines) c o))
        at c e below None p = leaf n g c e p
        at c e below (Some k) p =
            let place = lawful.within c k p in
            rw (guess_solutions (events_within pick n lines) c k)
            (node n g c k e (rw e at ((closure-IsLeastClosed lines g).above)) place.0 (unknown_is (get_or c k Unknown) place.1)
            (solutions_in (events_within pick n lines (set c k Filled))) (solutions_in (events_within pick n lines (set c k Blank)))
            (below (set c k Filled)) (below (set c k Blank)))

        from : (o : Option (List Cell)) → closure lines g ≡ o → ((z : List Cell) → P n z (solutions_in (events_within pick n lines z))) →
            P (suc n) g (solutions_in (search_from pick (events_within pick n lines) o))
        from None e below = dead n g e
        from (Some c) e below = at c e below (pick c) refl

  -- the search from a grid finds each solution that extends the grid
  pub found : (full : List Bool) → MeetsLines lines full → (g : List Cell) → Extends g (map colour full) →
      IsAmong (map colour full) (solutions_in (events pick lines g))
  found full m g h =
      each_found (λ n g xs. unknown_count g < n → Extends g z → IsAmong z xs) (λ g u h. absurd (omega arith))
      (λ n g e u h. absurd (rw e at (closure-below lines full m g h)))
      (λ n g c e p u h. inl (full_only c (rw e at (closure-below lines full m g h)) p))
      (λ n g c k e above lk unknown xs ys f b u h.
      let below : Extends c z = rw e at (closure-below lines full m g h) in
      let fewer = unknown_count-more g c above in
      let filled = count-settled c k Filled lk unknown refl in
      let blank = count-settled c k Blank lk unknown refl in
      both (get_or full k false) k xs ys (get_or-map_colour full k (omega (arith, lk, length-Extends c z below, length-map full colour)))
      (λ same. f (omega arith) (set_within c z k Filled below (rw same tt)))
      (λ same. b (omega arith) (set_within c z k Blank below (rw same tt))))
      (length g + 1) g (omega (arith, unknown_count-le g)) h
    where
      z : List Cell
      z = map colour full

      -- a full grid that `z` extends is `z`
      full_only : (c : List Cell) → Extends c z → pick c ≡ None → c ≡ z
      full_only c h e = Extends-antisym c z h (Extends-from_places z c (sym (length-Extends c z h)) (λ k l.
          rw (same_known (get_or c k Unknown) (get_or z k Unknown) (lawful.only_full c e k (omega (arith, length-Extends c z h)))
          (Extends-at c z k h)) ((Extends-refl (get_or c k Unknown ∷ [])).0)))

      both : (v : Bool) (k : ℕ) (xs ys : List (List Cell)) → get_or z k Unknown ≡ colour v → (get_or z k Unknown ≡ Filled → IsAmong z xs) →
          (get_or z k Unknown ≡ Blank → IsAmong z ys) → IsAmong z (xs ++ ys)
      both true k xs ys same f b = IsAmong-left z xs ys (f same)
      both false k xs ys same f b = IsAmong-right z xs ys (b same)

  -- a search of any depth, with lines within the grid, finds only solutions that extend the grid, and none twice
  pub sound_within : (n : ℕ) (g : List Cell) → AreInRange (length g) lines →
      ((s : List Cell) → IsAmong s (solutions_in (events_within pick n lines g)) → IsSolutionAbove lines g s)
      × AreDistinct (solutions_in (events_within pick n lines g))
  sound_within =
      each_found (λ n g xs. AreInRange (length g) lines → ((s : List Cell) → IsAmong s xs → IsSolutionAbove lines g s) × AreDistinct xs)
      (λ g r. ((λ s k. absurd k), tt)) (λ n g e r. ((λ s k. absurd k), tt))
      (λ n g c e p r. ((λ s k. elim k [ inl same ↦ rw (← same) (leaf g c e p r) | inr other ↦ absurd other ]), ((λ m. m), tt)))
      (λ n g c k e above lk unknown xs ys f b r.
      let long = λ (d : Cell). length-set c k d ∙ sym (length-Extends g c above) in
      let filled = f (rw (long Filled) r) in
      let blank = b (rw (long Blank) r) in
      let more = λ (d : Cell). Extends-trans g c (set c k d) above (set_extends c k d unknown) in (
        (λ s m. elim (IsAmong-split s xs ys m) [
          | inl i ↦ weaker lines g (set c k Filled) s (more Filled) (filled.0 s i)
          | inr i ↦ weaker lines g (set c k Blank) s (more Blank) (blank.0 s i)
        ]),
        AreDistinct-append xs ys filled.1 blank.1 (λ s i j. not_both c s k lk (filled.0 s i).extends (blank.0 s j).extends),
      ))
    where
      leaf : (g c : List Cell) → closure lines g ≡ Some c → pick c ≡ None → AreInRange (length g) lines → IsSolutionAbove lines g c
      leaf g c e p r =
          let law = closure-IsLeastClosed lines g in
          let above : Extends g c = rw e at law.above in
          let full = map is_filled c in
          let is : c ≡ map colour full = full_is c (lawful.only_full c p) in
          let long : length full ≡ length g = length-map c is_filled ∙ sym (length-Extends g c above) in
          record { full = full; is = is; meets = full-meets lines full c (rw long r) (rw (← is) (law.closed c e)); extends = above }

  -- a search depends on what follows a guess only for grids of the same size with fewer unknown cells
  search_from-agree : (p q : List Cell → List Event) (g : List Cell) →
      ((z : List Cell) → length z ≡ length g → unknown_count z < unknown_count g → p z ≡ q z) →
      search_from pick p (closure lines g) ≡ search_from pick q (closure lines g)
  search_from-agree p q g agree =
      search (rules, closure-IsLeastClosed, unknown_is, unknown_count-more, length-set, length-Extends, count-settled)

  -- all depths greater than the number of unknown cells yield the same events
  events_within-enough : (n m : ℕ) (g : List Cell) → unknown_count g < n → unknown_count g < m →
      events_within pick n lines g ≡ events_within pick m lines g
  events_within-enough (suc n) (suc m) g h k =
      search_from-agree (events_within pick n lines) (events_within pick m lines) g
      (λ z l u. events_within-enough n m z (omega arith) (omega arith))
  events_within-enough _ _ g h k = absurd (omega arith)

  -- a whole search goes on after each guess as a whole search
  pub events-unfold : (g : List Cell) → events pick lines g ≡ search_from pick (events pick lines) (closure lines g)
  events-unfold g = search (rules, add-one, search_from-agree, events_within-enough, unknown_count-le)

-- the solutions among the events up to the `n`-th solution are the first `n`
pub solutions_through : (n : ℕ) (es : List Event) → solutions_in (through_solution n es) ≡ take n (solutions_in es)
solutions_through zero es = refl
solutions_through (suc n) [] = refl
solutions_through (suc n) (Guess ∷ es) = solutions_through (suc n) es
solutions_through (suc n) (Solution s ∷ es) = λ i. s ∷ solutions_through n es i

-- the rule of the first unknown cell is lawful
pub first_unknown-IsPick : IsPick first_unknown
first_unknown-IsPick = search (rules, position-Some, fails_before_first, cases_lt, lt-ltb)
