-- Where the runs of a full line start.
use Rattle.line_core.proofs.Names.{rules, ◌≡◌, ℕ, zero, suc, ◌+◌, ◌-◌, ◌<◌, ◌≤◌, Bool, true, false, not, ◌&&◌, List, [], ◌∷◌, ◌++◌, length, replicate, filter, refl, sym, ap, ◌∙◌, arith, add-zero, add-one, true≢false, inl, inr, drop, get_or, drop-cons, append_assoc, range_with_len, runs, starts_run, run_starts, reversed_prefix, runs_after, runs_after-zero, runs_after-true, runs_after-false, runs_after-close, runs_after-nil, common_steps, cases_Bool}
use Rattle.std.proofs.Math.Seq.{get_or-append_seam}
use Rattle.line_core.proofs.Joining.{filled_within, onto, length_reversed_prefix, onto_reversed_prefix, get_or-onto, onto_split, drop_head, runs_cut, runs_about, begins, begins_some}

-- the indices at which runs start, counted from `p`; the flag is set if the cell before is filled
abbrev pub starts_from : ℕ → Bool → List Bool → List ℕ
starts_from p after [] = []
starts_from p false (true ∷ cells) = p ∷ starts_from (suc p) true cells
starts_from p true (true ∷ cells) = starts_from (suc p) true cells
starts_from p after (false ∷ cells) = starts_from (suc p) false cells

-- whether the cell before an index is filled
abbrev pub before : Bool → List Bool → ℕ → Bool
before after cells zero = after
before after cells (suc k) = get_or cells k false

starts-filter : (whole rest : List Bool) (p : ℕ) (after : Bool)
    → ((k : ℕ) → starts_run whole (p + k) ≡ (get_or rest k false && not (before after rest k)))
    → filter (starts_run whole) (range_with_len p (length rest)) ≡ starts_from p after rest
starts-filter whole [] p after h = refl
starts-filter whole (b ∷ rest) p after h =
    let here : starts_run whole p ≡ (b && not after) = ap (starts_run whole) (sym (add-zero p)) ∙ h 0 in
    rw (add-one p, here, starts-filter whole rest (suc p) b (λ k. grind (arith, h 1, h (suc k)))) (search rules)

-- the starts of the definition, as computed cell by cell
pub run_starts-from : (x : List Bool) → run_starts x ≡ starts_from 0 false x
run_starts-from x = search (rules, starts-filter)

-- ---- their number and order

-- the starts of a line that is cut somewhere
pub starts-onto : (a w : List Bool)
    → starts_from 0 false (onto a w) ≡ starts_from 0 false (onto a []) ++ starts_from (length a) (get_or a 0 false) w
starts-onto [] w = refl
starts-onto (b ∷ a) w = search (rules, append_assoc, onto, starts-onto a (b ∷ w), starts-onto a (b ∷ []))

mutual
  length-starts : (p : ℕ) (x : List Bool) → length (starts_from p false x) ≡ length (runs_after 0 x)
  length-starts p [] = ap length (sym (runs_after-zero []))
  length-starts p (b ∷ x) = search (rules, length-open (suc p) 0 x, length-starts (suc p) x, runs_after-true, runs_after-false)

  length-open : (p n : ℕ) (x : List Bool) → suc (length (starts_from p true x)) ≡ length (runs_after (suc n) x)
  length-open p n [] = ap length (sym (runs_after-nil n))
  length-open p n (b ∷ x) = search (rules, length-open (suc p) (suc n) x, length-starts (suc p) x, runs_after-true, runs_after-close)

-- there are as many starts as runs
pub length-run_starts : (x : List Bool) → length (starts_from 0 false x) ≡ length (runs x)
length-run_starts x = search (rules, length-starts, runs_after-zero)

pub length-onto : {A : Type 0} (a b : List A) → length (onto a b) ≡ length a + length b
length-onto [] b = omega arith
length-onto (x ∷ a) b = omega (arith, length-onto a (x ∷ b))

-- before a blank cell there are as many starts as runs
starts_before : (a : List Bool) → get_or a 0 false ≡ false → length (starts_from 0 false (onto a [])) ≡ length (runs a)
starts_before (b ∷ a) h = search (rules, length-run_starts, onto, runs_cut, length-onto, add-zero)
starts_before [] h = refl

pub starts_at_least : (x : List Bool) (p k : ℕ) (after : Bool) → k < length (starts_from p after x) → p ≤ get_or (starts_from p after x) k 0
starts_at_least (b ∷ x) p k after h = search (rules, starts_at_least x (suc p))
starts_at_least [] p k after h = search rules

pub starts_increase : (x : List Bool) (p i j : ℕ) (after : Bool) → i < j → j < length (starts_from p after x)
    → get_or (starts_from p after x) i 0 < get_or (starts_from p after x) j 0
starts_increase (true ∷ x) p zero (suc j) false l h = search (rules, starts_at_least)
starts_increase (b ∷ x) p i j after l h = grind (arith, common_steps, starts_increase x (suc p))
starts_increase x p i j after l h = absurd (omega arith)

-- at each start the cell is filled, and the one before it is not
start_is : (x : List Bool) (p k : ℕ) (after : Bool) → k < length (starts_from p after x)
    → (i : ℕ) × (get_or (starts_from p after x) k 0 ≡ p + i) × (get_or x i false ≡ true) × (before after x i ≡ false)
start_is [] p k after h = absurd (omega arith)
start_is (true ∷ x) p zero false h = (0, omega arith, refl, refl)
start_is (true ∷ x) p (suc k) false h = let r = start_is x (suc p) k true (omega arith) in (suc r.0, omega (arith, r.1), r.2, search rules)
start_is (b ∷ x) p k after h = let r = start_is x (suc p) k b h in (suc r.0, omega (arith, r.1), r.2, search rules)

-- ---- a line cut around a run

-- the start of a run that a line is cut around
pub start_of_cut : (a : List Bool) (c : ℕ) (b : List Bool) → 0 < c → get_or a 0 false ≡ false
    → get_or (starts_from 0 false (onto a (replicate c true ++ b))) (length (runs a)) 0 ≡ length a
start_of_cut a zero b some closed = absurd (omega arith)
start_of_cut a (suc n) b some closed = search (rules, starts-onto, starts_before, get_or-append_seam, onto)

-- run `k` of a line with the runs `clue`: the cells before it, reversed, and the cells after it
pub record Run (x : List Bool) (clue : List ℕ) (k : ℕ) : Type 0 where
  pub front : List Bool
  pub back : List Bool
  pub whole : onto front (replicate (get_or clue k 0) true ++ back) ≡ x
  pub front_closed : get_or front 0 false ≡ false
  pub back_closed : get_or back 0 false ≡ false
  pub start : length front ≡ get_or (starts_from 0 false x) k 0
  pub front_runs : runs front ≡ reversed_prefix 0 clue k
  pub back_runs : runs back ≡ drop (suc k) clue

-- before a filled cell all cells are filled from some index on, before which no filled cell stands
stretch_of : (x : List Bool) (i : ℕ) → get_or x i false ≡ true
    → (k : ℕ) × (k ≤ i) × ((z : ℕ) → k ≤ z → z ≤ i → get_or x z false ≡ true) × (before false x k ≡ false)
stretch_of x zero h = (0, omega arith, (λ z a b. let e : z ≡ 0 = omega arith in rw e h), refl)
stretch_of x (suc i) h = elim (cases_Bool (get_or x i false)) [
  | inl e ↦ (let s = stretch_of x i e in search rules)
  | inr e ↦ (suc i, omega arith, (λ z a b. let same : z ≡ suc i = omega arith in rw same h), e)
]

-- the filled cell `i` is in run `index`
pub record Covered (x : List Bool) (clue : List ℕ) (i : ℕ) : Type 0 where
  pub index : ℕ
  pub inside : index < length clue
  pub from : get_or (starts_from 0 false x) index 0 ≤ i
  pub to : i < get_or (starts_from 0 false x) index 0 + get_or clue index 0

module _ (x : List Bool) (clue : List ℕ) where
  -- where run `k` starts
  abbrev run_start : ℕ → ℕ
  run_start k = get_or (starts_from 0 false x) k 0

  -- a run starts where a filled cell has no filled cell before it
  run_at : (s : ℕ) → runs x ≡ clue → get_or x s false ≡ true → before false x s ≡ false
      → (j : ℕ) × (j < length clue) × (run_start j ≡ s) × Run x clue j
  run_at s is filled first =
      let within = filled_within x s filled in
      let a = reversed_prefix false x s in
      let v = begins (drop s x) in
      let some : 0 < v.count = begins_some (drop s x) v (grind (arith, common_steps, drop-cons)) in
      let closed : get_or a 0 false ≡ false = search rules in
      let long : length a ≡ s = length_reversed_prefix false x s in
      let whole : onto a (replicate v.count true ++ v.rest) ≡ x =
      ap (onto a) (sym v.whole) ∙ onto_reversed_prefix false x s (omega arith) in
      let parts = onto_split (runs a) (v.count ∷ runs v.rest) clue
      (sym (runs_about a v.count v.rest some closed v.closed) ∙ ap runs whole ∙ is) in
      let cut = drop_head clue (length (runs a)) v.count (runs v.rest) parts.1 in grind (arith, common_steps, start_of_cut)

  -- each number of the clue has its run
  pub run_of : (k : ℕ) → runs x ≡ clue → k < length clue → Run x clue k
  run_of k is h =
      let count : length (starts_from 0 false x) ≡ length clue = length-run_starts x ∙ ap length is in
      let s = start_is x 0 k false (omega arith) in
      let (j, jl, at, run) = run_at s.0 is s.2 s.3 in
      let same : j ≡ k = grind (arith, s.1, starts_increase x 0 j k false, starts_increase x 0 k j false) in rw (sym same) run

  -- the cells of a run are filled
  pub filled_in_run : (k : ℕ) → Run x clue k → (z : ℕ) → z < get_or clue k 0 → get_or x (run_start k + z) false ≡ true
  filled_in_run k r z h = grind (arith, common_steps, get_or-onto)

  pub in_run : (k i : ℕ) → runs x ≡ clue → k < length clue → run_start k ≤ i → i < run_start k + get_or clue k 0 → get_or x i false ≡ true
  in_run k i is h low high = grind (arith, filled_in_run k (run_of k is h) (i - run_start k))

  -- between two runs there is a blank cell
  pub runs_apart : (k : ℕ) → runs x ≡ clue → suc k < length clue → run_start k + get_or clue k 0 < run_start (suc k)
  runs_apart k is h =
      let count : length (starts_from 0 false x) ≡ length clue = length-run_starts x ∙ ap length is in
      let (t, value, filled, first) = start_is x 0 (suc k) false (omega arith) in
      let more : run_start k < t = omega (arith, starts_increase x 0 k (suc k) false (omega arith) (omega arith)) in
      grind (arith, common_steps, true≢false, in_run k (t - 1) is)

  -- each filled cell is in a run
  pub covered : (i : ℕ) → runs x ≡ clue → get_or x i false ≡ true → Covered x clue i
  covered i is h =
      let (k, from, filled, first) = stretch_of x i h in
      let r = run_at k is (filled k (omega arith) from) first in
      let to : i < run_start r.0 + get_or clue r.0 0 =
      grind (arith, common_steps, true≢false, filled (run_start r.0 + get_or clue r.0 0), get_or-onto) in
      record { index = r.0; inside = r.1; from = omega arith; to = to }
