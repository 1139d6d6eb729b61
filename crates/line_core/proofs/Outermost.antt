-- The leftmost and the rightmost starts: the search of the definition finds them, and so do the feasible ends.
use Rattle.line_core.proofs.GapFloods.{blank_before}
use Rattle.line_core.proofs.Names.{none_has, none_in, true≢false, nat_eq, eqb-true, eq-eqb, Filled, Unknown, agrees, and_parts, IsMaskOf, MatchBool, inl, inr, rules, ◌≡◌, ℕ, suc, ◌+◌, ◌-◌, ◌<◌, ◌≤◌, Bool, true, false, not, List, [], ◌∷◌, length, map, Some, None, refl, sym, ap, ◌∙◌, arith, get_or, ext_get_or, nat_le, take, MatchBool, All, list_all, find, All-head, All-tail, All-weaker, and_parts, leb-true, le-leb, list_all-map, length-take-le, get_or-take, Cell, placings, run_starts, all_starts, Direction, Left, Right, outermost, IsAsFar, IsOuterStart, IsMaskOf, IsFeasibleEnd, HasPlacing, ArePositive, cases_Bool, common_steps}
use lib.Pointwise.{pointwise}
use Rattle.line_core.proofs.Joining.{positive_at}
use Rattle.line_core.proofs.FeasibleEnds.{feasible_of, placing_with}
use Rattle.line_core.proofs.DeductionLaws.{IsPlacing, placings_listed, none_listed, not_all, agrees_is}
use Rattle.line_core.proofs.RunStarts.{starts_from, run_starts-from, covered}
use Rattle.line_core.proofs.Painting.{IsLaid, AreFurthest, laid, placing_of, furthest_laid}

-- ---- the definitions

pointwise_from : (xs ys : List ℕ) → length xs ≡ length ys → ((j : ℕ) → j < length xs → get_or xs j 0 ≤ get_or ys j 0)
    → pointwise nat_le xs ys ≡ true
pointwise_from (x ∷ xs) (y ∷ ys) e h =
    rw (le-leb x y (h 0 (omega arith)), pointwise_from xs ys (omega arith) (λ j l. h (suc j) (omega arith))) refl
pointwise_from xs ys e h = search rules

pointwise_to : (xs ys : List ℕ) → pointwise nat_le xs ys ≡ true → (length xs ≡ length ys) × ((j : ℕ) → get_or xs j 0 ≤ get_or ys j 0)
pointwise_to (x ∷ xs) (y ∷ ys) h = search (rules, and_parts, leb-true, pointwise_to xs ys)
pointwise_to xs ys h = search rules

pub pointwise_antisym : (xs ys : List ℕ) → pointwise nat_le xs ys ≡ true → pointwise nat_le ys xs ≡ true → xs ≡ ys
pointwise_antisym xs ys h k =
    ext_get_or 0 xs ys (pointwise_to xs ys h).0 (λ j l. omega (arith, (pointwise_to xs ys h).1 j, (pointwise_to ys xs k).1 j))

-- each start in the first list is as far in a direction as the one in the second list, or further
abbrev pub all_as_far : Direction → List ℕ → List ℕ → Bool
all_as_far Left = pointwise nat_le
all_as_far Right = λ xs ys. pointwise nat_le ys xs

as_far_from : (direction : Direction) (xs ys : List ℕ) → length xs ≡ length ys →
    ((j : ℕ) → j < length xs → IsAsFar direction (get_or xs j 0) (get_or ys j 0)) → all_as_far direction xs ys ≡ true
as_far_from direction xs ys e h = search (rules, pointwise_from)

as_far_antisym : (direction : Direction) (xs ys : List ℕ) → all_as_far direction xs ys ≡ true → all_as_far direction ys xs ≡ true → xs ≡ ys
as_far_antisym direction xs ys h k = search (rules, pointwise_antisym)

-- a search finds `m` if all full lines that pass the test have the starts `m`, and one passes
find_only : (p : List ℕ → Bool) (m : List ℕ) (ps : List (List Bool)) → All (λ x. p (run_starts x) ≡ true → run_starts x ≡ m) ps
    → list_all (λ x. not (p (run_starts x))) ps ≡ false → find p (map run_starts ps) ≡ Some m
find_only p m [] only h = cc
find_only p m (x ∷ ps) only h = elim (cases_Bool (p (run_starts x))) [
  | inl e ↦ grind (arith, common_steps, All-head)
  | inr e ↦ rw e (find_only p m ps (All-tail (λ y. p (run_starts y) ≡ true → run_starts y ≡ m) x ps only) (rw e at h))
]

-- what follows from either case of a test
pub match_more : (b : Bool) (P Q R S : Type 0) → (P → R) → (Q → S) → MatchBool b P Q → MatchBool b R S
match_more true P Q R S f g h = f h
match_more false P Q R S f g h = g h

module _ (l : List Cell) (clue : List ℕ) where
  -- the starts of a placing lay out the clue
  pub laid_placing : (x : List Bool) → IsPlacing l clue x → IsLaid l clue (run_starts x)
  laid_placing x p = rw run_starts-from (laid l clue x ((agrees_is l x).1 p.extends) p.runs_are)

  -- a test that passes for all starts which lay out the clue passes for the starts of all placings
  all_pass : (p : List ℕ → Bool) → ((ss : List ℕ) → IsLaid l clue ss → p ss ≡ true) → list_all p (all_starts l clue) ≡ true
  all_pass p h =
      list_all-map p run_starts (placings l clue)
      ∙ (placings_listed l clue).every (λ x. p (run_starts x)) (λ x q. h (run_starts x) (laid_placing x q))

  -- a test that passes for the starts of all placings passes for those of each placing
  pub pass_all : (p : List ℕ → Bool) → list_all p (all_starts l clue) ≡ true → (x : List Bool) → IsPlacing l clue x
      → p (run_starts x) ≡ true
  pass_all p h x q = (placings_listed l clue).each (λ x. p (run_starts x)) (sym (list_all-map p run_starts (placings l clue)) ∙ h) x q

  -- starts that lay out the clue are those of a placing
  pub placed : (m : List ℕ) → ArePositive clue → IsLaid l clue m → (x : List Bool) × IsPlacing l clue x × (run_starts x ≡ m)
  placed m pos d = let x = placing_of l clue m pos d in search (rules, agrees_is, run_starts-from, x)

  -- if there is a placing, each run has a feasible end
  pub some_end : (j : ℕ) → ArePositive clue → HasPlacing l clue → j < length clue → (e : ℕ) × IsFeasibleEnd l clue j e
  some_end j pos p h =
      let e = get_or (starts_from 0 false p.0) j 0 + get_or clue j 0 - 1 in
      (e, feasible_of l clue p.0 j e p.1 p.2 h (omega (arith, positive_at clue pos j h)))

  laid_end : (ss : List ℕ) (j : ℕ) → ArePositive clue → IsLaid l clue ss → j < length clue
      → IsFeasibleEnd l clue j (get_or ss j 0 + get_or clue j 0 - 1)
  laid_end ss j pos d h =
      let (x, agree, is, starts) = placing_of l clue ss pos d in
      feasible_of l clue x j (get_or ss j 0 + get_or clue j 0 - 1) agree is h (rw starts (omega (arith, positive_at clue pos j h)))

-- a line without filled cells has the placing without runs
empty_placing : (l : List Cell) → ((i : ℕ) → get_or l i Unknown ≡ Filled → ⊥) → HasPlacing l []
empty_placing [] none = ([], refl, refl)
empty_placing (c ∷ l) none = search (rules, blank_before, none 0, empty_placing l (λ i. none (suc i)))

filled_kept : (l : List Cell) (x : List Bool) (i : ℕ) → agrees l x ≡ true → get_or l i Unknown ≡ Filled → get_or x i false ≡ true
filled_kept (c ∷ l) (b ∷ x) (suc i) a h = search (rules, and_parts, filled_kept l x i)
filled_kept l x i a h = search (rules, and_parts)

-- a line has a placing without runs exactly if no cell is known to be filled
pub no_run_is : (b : Bool) (l : List Cell) (clue : List ℕ) (filled : ℕ) → length clue ≡ 0
    → IsMaskOf (λ i. get_or l i Unknown ≡ Filled) filled → b ≡ nat_eq filled 0 → MatchBool b (HasPlacing l clue) (HasPlacing l clue → ⊥)
no_run_is true l [] filled none p e = empty_placing l (λ i at. none_has filled i (eqb-true filled 0 (sym e)) (p.from i at))
no_run_is false l [] filled none p e = λ (x, agree, is). true≢false (sym (eq-eqb filled 0 (none_in _ filled p (λ i at.
    omega (arith, (covered x [] i is (filled_kept l x i agree at)).inside)))) ∙ sym e)
no_run_is b l (n ∷ clue) filled none p e = absurd (omega arith)

-- ---- in either direction

module _ (direction : Direction) (l : List Cell) (clue : List ℕ) where
  -- the outermost starts are the first that are as far as those of all placings
  pub outermost_found : outermost direction l clue
      ≡ find (λ starts. list_all (all_as_far direction starts) (all_starts l clue)) (all_starts l clue)
  outermost_found = search rules

  -- starts that are as far as those of every placing are those of one placing, and are the outermost
  pub outermost_of : (m : List ℕ) → ArePositive clue → AreFurthest direction l clue m → outermost direction l clue ≡ Some m
  outermost_of m pos f =
      let x = placed l clue m pos (furthest_laid direction l clue m f) in
      let test = λ (starts : List ℕ). list_all (all_as_far direction starts) (all_starts l clue) in
      let pass : test m ≡ true = grind (arith, common_steps, all_pass, as_far_from) in
      let listed = placings_listed l clue in
      let only = All-weaker (IsPlacing l clue) (λ y. test (run_starts y) ≡ true → run_starts y ≡ m)
      (λ y q t. grind (arith, common_steps, as_far_antisym, pass_all)) _ listed.members in
      outermost_found ∙ find_only test m (placings l clue) only (grind (arith, common_steps, not_all, listed))

  -- if each run starts by its outermost feasible end, the starts are those of one placing, and are the outermost
  outermost_is : (m : List ℕ) → ArePositive clue → HasPlacing l clue → length m ≡ length clue
      → ((j : ℕ) → j < length clue → IsOuterStart direction l clue j (get_or m j 0)) → outermost direction l clue ≡ Some m
  outermost_is m pos p count each =
      outermost_of m pos (record {
        count = count;
        some = starts_from 0 false p.0;
        some_laid = laid l clue p.0 p.1 p.2;
        each = λ j h.
            let o = each j h in
            let x = placing_with l clue j o.end pos h o.feasible in
            record { starts = starts_from 0 false x.0; laid_so = laid l clue x.0 x.1 x.2; at = x.3 ∙ sym o.start_is };
        furthest = λ ss d j h.
            let o = each j h in
            let far = o.outermost_so _ (laid_end l clue ss j pos d h) in search (rules, positive_at clue pos j h, o.start_is);
      })

  outermost_none : (HasPlacing l clue → ⊥) → outermost direction l clue ≡ None
  outermost_none none =
      outermost_found
      ∙ ap (λ (ps : List (List Bool)). find (λ starts. list_all (all_as_far direction starts) (map run_starts ps)) (map run_starts ps))
      (none_listed l clue (placings l clue) (placings_listed l clue) (λ x p. none (x, (agrees_is l x).1 p.extends, p.runs_are)))

  -- `find_starts` returns the outermost starts, or nothing if there is no placing
  pub answered : (list : List ℕ) (b : Bool) → ArePositive clue → length clue ≤ length list
      → MatchBool b (HasPlacing l clue × ((j : ℕ) → j < length clue → IsOuterStart direction l clue j (get_or list j 0)))
      (HasPlacing l clue → ⊥)
      → MatchBool b (outermost direction l clue ≡ Some (take (length clue) list)) (outermost direction l clue ≡ None)
  answered list true pos long h =
      outermost_is (take (length clue) list) pos h.0 (length-take-le (length clue) list long) (λ j k. search (rules, get_or-take, h.1 j))
  answered list false pos long h = outermost_none h
