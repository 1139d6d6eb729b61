-- The leftmost and the rightmost starts are furthest in their direction, and exist if there is a placing.
use Rattle.line_core.proofs.Names.{rules, ◌≡◌, ℕ, ◌<◌, Bool, true, List, [], ◌∷◌, length, map, Some, refl, sym, ◌∙◌, arith, inl, inr, ◌⊎◌, get_or, nat_le, filter, All-head, All-tail, All, list_all, find, range_with_len, cases_lt, leb-true, le-leb, length-map-range_with_len, get_or-map-range_with_len, Cell, runs, is_positive, placings, run_starts, all_starts, ArePositive, Direction, Left, Right, outermost, IsAsFar, cases_Bool, AreStarts, common_steps}
use Rattle.line_core.proofs.DeductionLaws.{IsPlacing, placings_listed, test_is}
use Rattle.line_core.proofs.Outermost.{all_as_far, laid_placing, outermost_found, outermost_of, placed, pass_all}

-- what a search finds among the starts of some full lines passes its test, and is the starts of one of them
found : (P : List Bool → Type 0) (p : List ℕ → Bool) (m : List ℕ) (ps : List (List Bool)) → All P ps
    → find p (map run_starts ps) ≡ Some m → (p m ≡ true) × ((x : List Bool) × P x × (run_starts x ≡ m))
found P p m [] all e = cc
found P p m (x ∷ ps) all e = elim (cases_Bool (p (run_starts x))) [
  | inl t ↦ grind (arith, common_steps, All-head)
  | inr t ↦ found P p m ps (All-tail P x ps all) (rw t at e)
]

-- the outermost starts are those of a placing, and each run starts as far in that direction as in any other placing
pub outermost-furthest : (direction : Direction) (l : List Cell) (clue m : List ℕ) → outermost direction l clue ≡ Some m
    → AreStarts l clue m × ((other : List ℕ) → AreStarts l clue other → all_as_far direction m other ≡ true)
outermost-furthest direction l clue m e =
    let f = found (IsPlacing l clue) (λ starts. list_all (all_as_far direction starts) (all_starts l clue)) m (placings l clue)
    (placings_listed l clue).members (sym (outermost_found direction l clue) ∙ e) in search (rules, pass_all, test_is)

-- ---- the outermost starts exist

kept_positive : (ns : List ℕ) → ArePositive (filter is_positive ns)
kept_positive [] = tt
kept_positive (n ∷ ns) = search (rules, kept_positive ns)

positive_runs : (x : List Bool) (clue : List ℕ) → runs x ≡ clue → ArePositive clue
positive_runs x clue e = search (rules, kept_positive)

abbrev as_far : Direction → ℕ → ℕ → Bool
as_far Left = nat_le
as_far Right = λ i other. nat_le other i

far_is : (direction : Direction) (i other : ℕ) → IsAsFar direction i other → as_far direction i other ≡ true
far_is direction i other h = search (rules, le-leb)

far_then : (direction : Direction) (i j k : ℕ) → IsAsFar direction i j → IsAsFar direction j k → IsAsFar direction i k
far_then direction i j k a b = search rules

either_far : (direction : Direction) (i j : ℕ) → IsAsFar direction i j ⊎ IsAsFar direction j i
either_far direction i j = search (rules, cases_lt)

-- one of `x` and `ps` has the number `f` that is furthest in a direction
outer_member : (direction : Direction) (P : List Bool → Type 0) (f : List Bool → ℕ) (x : List Bool) (ps : List (List Bool)) → P x →
    All P ps → (z : List Bool) × P z × IsAsFar direction (f z) (f x) × (list_all (λ y. as_far direction (f z) (f y)) ps ≡ true)
outer_member direction P f x [] p all = (x, p, search rules, refl)
outer_member direction P f x (y ∷ ps) p all =
    elim (either_far direction (f x) (f y)) [
      | inl far ↦ search (rules, All-tail, far_is, far_then, outer_member direction P f x ps p)
      | inr far ↦
          (let r = outer_member direction P f y ps (All-head P y ps all) (All-tail P y ps all) in search (rules, far_is, far_then, r))
    ]

-- a placing in which run `j` starts furthest in a direction among all placings
outer_at : (direction : Direction) (l : List Cell) (clue : List ℕ) (x : List Bool) (j : ℕ) → IsPlacing l clue x →
    (z : List Bool) × IsPlacing l clue z
    × ((y : List Bool) → IsPlacing l clue y → IsAsFar direction (get_or (run_starts z) j 0) (get_or (run_starts y) j 0))
outer_at direction l clue x j p =
    let start = λ (y : List Bool). get_or (run_starts y) j 0 in
    let r = outer_member direction (IsPlacing l clue) start x (placings l clue) p (placings_listed l clue).members in
    (r.0, r.1, search (rules, leb-true, placings_listed))

-- if there is a placing, there are outermost starts
pub outermost-exists : (direction : Direction) (l : List Cell) (clue : List ℕ) (x : List Bool) → IsPlacing l clue x →
    (m : List ℕ) × (outermost direction l clue ≡ Some m)
outermost-exists direction l clue x p = (
  all,
  outermost_of direction l clue all (positive_runs x clue p.runs_are) (record {
    count = length-map-range_with_len at 0 (length clue);
    some = run_starts x;
    some_laid = laid_placing l clue x p;
    each = λ j h. search (rules, laid_placing, value, outer_at direction l clue x j p);
    furthest = λ ss d j h.
        let y = placed l clue ss (positive_runs x clue p.runs_are) d in
        grind (arith, common_steps, value, (outer_at direction l clue x j p).2 y.0);
  }),
)
  where
    at : ℕ → ℕ
    at j = get_or (run_starts (outer_at direction l clue x j p).0) j 0

    all : List ℕ
    all = map at (range_with_len 0 (length clue))

    value : (j : ℕ) → j < length clue → get_or all j 0 ≡ at j
    value j h = get_or-map-range_with_len at 0 (length clue) j j 0 h (omega arith)
