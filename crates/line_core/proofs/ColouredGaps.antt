-- The support of a line before a gap, once one of its cells has a colour: step by step along the line.
use Rattle.line_core.proofs.Names.{◌↔◌, rules, ◌≡◌, ◌≢◌, ℕ, zero, suc, ◌+◌, ◌-◌, ◌<◌, ◌≤◌, Bool, true, false, List, [], ◌∷◌, length, refl, sym, ap, ◌∙◌, arith, add-one, ◌⊎◌, inl, inr, get_or, drop, cases_lt, and_from, and_parts, Cell, Unknown, allows, agrees, reversed_prefix, MayBe, IsGapAfter, IsEndAfter, IsPrefixGap, IsSuffixGap, IsFeasibleEnd, IsFlooded, AllFrom, length-set, get_or-set_other, get_or-set_same, replicate, ◌++◌, drop-cons, cases_eq, colour, coloured, CanBeBefore, CanBeUpTo, IsFeasibleGap}
use Rattle.line_core.proofs.Joining.{closed_prefix_to, closed_prefix_from, closed_suffix_from, agrees_span, runs_first}
use Rattle.line_core.proofs.GapFloods.{gap_after_to, gap_after_from, first_gap_to, first_gap_from}

pub colour_is : (v w : Bool) → (allows (colour v) w ≡ true) ↔ (v ≡ w)
colour_is v w = search rules

-- a cell that was given a colour can have that colour only
pub coloured_one : (l : List Cell) (k : ℕ) (v w : Bool) → k < length l → MayBe (coloured l k v) w k → v ≡ w
coloured_one l k v w h m = (colour_is v w).0 (rw (get_or-set_same l k (colour v) Unknown h) at m.1)

-- a cell that was given a colour can have it
pub coloured_same : (l : List Cell) (k : ℕ) (v : Bool) → k < length l → MayBe (coloured l k v) v k
coloured_same l k v h = rw (length-set l k (colour v), get_or-set_same l k (colour v) Unknown h) (h, (colour_is v v).1 refl)

-- every other cell can have the colours that it could have before
pub coloured_other : (l : List Cell) (k : ℕ) (v w : Bool) (x : ℕ) → x ≢ k → MayBe l w x → MayBe (coloured l k v) w x
coloured_other l k v w x ne m = rw (length-set l k (colour v), get_or-set_other l k x (colour v) Unknown ne) m

-- giving a cell a colour that it can have takes colours away from cells, and adds none
coloured_allows : (l : List Cell) (k : ℕ) (v : Bool) → MayBe l v k → (w : Bool) (x : ℕ)
    → allows (get_or (coloured l k v) x Unknown) w ≡ true → allows (get_or l x Unknown) w ≡ true
coloured_allows l k v here w x m = search (rules, cases_eq x k, colour_is v w, get_or-set_same, get_or-set_other)

pub coloured_less : (l : List Cell) (k : ℕ) (v : Bool) → MayBe l v k → (w : Bool) (x : ℕ) → MayBe (coloured l k v) w x → MayBe l w x
coloured_less l k v here w x m = (omega (arith, m.0, length-set l k (colour v)), coloured_allows l k v here w x m.1)

-- a full line that agrees with a reversed prefix of the line with a colour agrees with that of the line
agrees_less : (l : List Cell) (k : ℕ) (v : Bool) → MayBe l v k → (i : ℕ) (x : List Bool)
    → agrees (reversed_prefix Unknown (coloured l k v) i) x ≡ true → agrees (reversed_prefix Unknown l i) x ≡ true
agrees_less l k v here (suc i) (b ∷ x) h = search (rules, and_parts, and_from, coloured_allows, agrees_less l k v here i x)
agrees_less l k v here i x h = search rules

-- a gap of the line with a colour is a gap of the line
pub gap_less : (l : List Cell) (k : ℕ) (v : Bool) → MayBe l v k → (rs : List ℕ) (i : ℕ) → IsGapAfter (coloured l k v) rs i
    → IsGapAfter l rs i
gap_less l k v here rs i g = search (rules, coloured_less, agrees_less)

-- an end of a run on the line with a colour is an end on the line
pub end_less : (l : List Cell) (k : ℕ) (v : Bool) → MayBe l v k → (rs : List ℕ) (n e : ℕ) → IsEndAfter (coloured l k v) rs n e
    → IsEndAfter l rs n e
end_less l k v here rs n e x = search (rules, agrees_less l k v here (e + 1 - n), coloured_less l k v here true, x.1.1)

-- a reversed prefix is unchanged if the colour is at or after its end
pub reversed_prefix_coloured : (l : List Cell) (k : ℕ) (v : Bool) (i : ℕ) → i ≤ k
    → reversed_prefix Unknown (coloured l k v) i ≡ reversed_prefix Unknown l i
reversed_prefix_coloured l k v zero h = refl
reversed_prefix_coloured l k v (suc i) h = let ne : i ≢ k = omega arith in
    rw (get_or-set_other l k i (colour v) Unknown ne, reversed_prefix_coloured l k v i (omega arith)) refl

-- ---- one step along the line

-- a gap after a run continues from the gap one cell before it, or follows an end of the run
gap_step_to : (l : List Cell) (rs : List ℕ) (n i : ℕ) → 0 < n → IsGapAfter l (n ∷ rs) i
    → (1 ≤ i) × (IsGapAfter l (n ∷ rs) (i - 1) ⊎ IsEndAfter l rs n (i - 1))
gap_step_to l rs n zero some g = absurd (omega (arith, (gap_after_from l rs n zero g).1))
gap_step_to l rs n (suc i) some g = let step = gap_after_from l rs n (suc i) g in search (rules, gap_after_to l rs n i some)

gap_step_from : (l : List Cell) (rs : List ℕ) (n i : ℕ) → 0 < n → MayBe l false i → 1 ≤ i
    → IsGapAfter l (n ∷ rs) (i - 1) ⊎ IsEndAfter l rs n (i - 1) → IsGapAfter l (n ∷ rs) i
gap_step_from l rs n (suc i) some m h x = search (rules, gap_after_to l rs n (suc i) some, gap_after_from l rs n i)
gap_step_from l rs n zero some m h x = absurd (omega arith)

-- the end of a run on a line with a colour: the coloured cell is in the run, or lies before the gap before the run
pub end_step_to : (l : List Cell) (rs : List ℕ) (n e k : ℕ) (v : Bool) → 0 < n → MayBe l v k → k ≤ e → IsEndAfter (coloured l k v) rs n e
    → CanBeUpTo l rs n v e k
end_step_to l rs n e k v some here le x =
    let first = (x.1.1 0 some).0 in
    elim (cases_lt k (e + 1 - n)) [
      | inl low ↦
          (let gap = closed_prefix_to (coloured l k v) rs (e + 1 - n) (omega (arith, length-set l k (colour v))) x.1.0 in
          let start : e + 1 - n - 1 ≡ e - n = omega arith in search rules)
      | inr high ↦
          (let at : e + 1 - n + (k - (e + 1 - n)) ≡ k = omega arith in
          inl (coloured_one l k v true here.0 (rw at at (x.1.1 (k - (e + 1 - n)) (omega arith))), high, le))
    ]

pub end_step_from : (l : List Cell) (rs : List ℕ) (n e k : ℕ) (v : Bool) → IsEndAfter l rs n e → CanBeUpTo l rs n v e k
    → MayBe l v k × (k ≤ e) × IsEndAfter (coloured l k v) rs n e
end_step_from l rs n e k v x (inl (true_is, from, to)) =
    let at : e + 1 - n + (k - (e + 1 - n)) ≡ k = omega (arith, x.0) in
    let here = rw at at (x.1.1 (k - (e + 1 - n)) (omega (arith, x.0))) in
    let cells : AllFrom (MayBe (coloured l k v) true) n (e + 1 - n) =
    λ z b. search (rules, cases_eq (e + 1 - n + z) k, true_is, coloured_same l k true here.0, coloured_other, x.1.1 z b) in
    search (rules, reversed_prefix_coloured)
end_step_from l rs n e k v x (inr (enough, (low, may, gap))) =
    let start : e - n ≡ e + 1 - n - 1 = omega arith in
    let front = closed_prefix_from (coloured l k v) rs (e + 1 - n) (inr (omega arith, rw start at gap)) in
    (may, omega arith, (omega arith, (front, λ z b. coloured_other l k v true (e + 1 - n + z) (omega arith) (x.1.1 z b))))

-- how the cells before gap `i` can be coloured: its own cell is blank, and a cell before it has a colour that goes with
-- the gap one cell before, or with the end of the run one cell before
abbrev pub Step : List Cell → List ℕ → ℕ → ℕ → Bool → ℕ → Type 0
Step l rs n i v k = ((k ≡ i) × (v ≡ false)) ⊎ ((1 ≤ i) × (CanBeBefore l (n ∷ rs) (i - 1) v k
    ⊎ (IsEndAfter l rs n (i - 1) × CanBeUpTo l rs n v (i - 1) k)))

pub before_to : (l : List Cell) (rs : List ℕ) (n i : ℕ) (v : Bool) (k : ℕ) → 0 < n → CanBeBefore l (n ∷ rs) i v k → Step l rs n i v k
before_to l rs n i v k some h = elim (cases_eq k i) [
  | inl e ↦ inl (e, coloured_one l k v false h.1.0 (rw (sym e) at h.2.0))
  | inr ne ↦
      (let s = gap_step_to (coloured l k v) rs n i some h.2 in
      let le : k ≤ i - 1 = omega (arith, h.0, s.0) in
      search (rules, s, end_less l k v h.1 rs n (i - 1), end_step_to l rs n (i - 1) k v some h.1 le))
]

pub before_from : (l : List Cell) (rs : List ℕ) (n i : ℕ) (v : Bool) (k : ℕ) → 0 < n → IsGapAfter l (n ∷ rs) i → Step l rs n i v k
    → CanBeBefore l (n ∷ rs) i v k
before_from l rs n i v k some g (inl (at, blank)) = search (rules, at, blank, reversed_prefix_coloured, coloured_same)
before_from l rs n i v k some g (inr (h, x)) =
    search (rules, end_step_from l rs n (i - 1) k v, gap_step_from (coloured l k v) rs n i some, coloured_other)

-- ---- before the first run

-- no run lies before an index if all cells up to it can be blank
abbrev FirstGap : List Cell → ℕ → Type 0
FirstGap l = IsFlooded (λ x. (x ≡ 0) × MayBe l false x) (MayBe l false)

blank_to : (l : List Cell) (i : ℕ) → FirstGap l i → (k : ℕ) → k ≤ i → MayBe l false k
blank_to l zero f k le = let e : k ≡ 0 = omega arith in rw e f.1
blank_to l (suc i) f k le = search (rules, cases_lt k (suc i), blank_to l i)

blank_from : (l : List Cell) (i : ℕ) → ((k : ℕ) → k ≤ i → MayBe l false k) → FirstGap l i
blank_from l zero h = (refl, h 0 (omega arith))
blank_from l (suc i) h = inr (h (suc i) (omega arith), blank_from l i (λ k b. h k (omega arith)))

pub first_to : (l : List Cell) (i : ℕ) (v : Bool) (k : ℕ) → CanBeBefore l [] i v k → (k ≤ i) × (v ≡ false)
first_to l i v k h = (h.0, coloured_one l k v false h.1.0 (blank_to (coloured l k v) i (first_gap_from (coloured l k v) i h.2) k h.0))

pub first_from : (l : List Cell) (i k : ℕ) → IsGapAfter l [] i → k ≤ i → CanBeBefore l [] i false k
first_from l i k g le =
    let cells = blank_to l i (first_gap_from l i g) in
    let gap = blank_from (coloured l k false) i
    (λ x b. search (rules, cases_eq x k, coloured_same l k false (cells k le).0, coloured_other, cells x b)) in
    (le, cells k le, first_gap_to (coloured l k false) i gap)

-- ---- feasible gaps and ends

-- the cell before a feasible gap is a feasible gap too, if the cells before it allow that
pub feasible_back : (l : List Cell) (clue : List ℕ) (j i : ℕ) → j ≤ length clue → 1 ≤ i → IsSuffixGap l clue j i
    → IsPrefixGap l clue j (i - 1)
    → IsFeasibleGap l clue j (i - 1)
feasible_back l clue j i jl some a g =
    let same : i - 1 + 1 ≡ i = omega arith in let b = closed_suffix_from l clue j i (inr a) in search (rules, same)

-- the cell before a feasible gap is a feasible end of the run before the gap, if the cells before it allow that
pub feasible_end_back : (l : List Cell) (clue : List ℕ) (j i : ℕ) → 1 ≤ i → IsSuffixGap l clue (suc j) i
    → IsEndAfter l (reversed_prefix 0 clue j) (get_or clue j 0) (i - 1) → IsFeasibleEnd l clue j (i - 1)
feasible_end_back l clue j i some a e = search (rules, add-one, closed_suffix_from)

-- a gap right before a feasible run is feasible
pub feasible_before_end : (l : List Cell) (clue : List ℕ) (j e : ℕ) → j < length clue → 0 < get_or clue j 0 → get_or clue j 0 ≤ e
    → IsFeasibleEnd l clue j e → IsFeasibleGap l clue j (e - get_or clue j 0)
feasible_before_end l clue j e jl some far w =
    let c = get_or clue j 0 in
    let s = e + 1 - c in
    let start : s - 1 ≡ e - c = omega arith in
    let next : e - c + 1 ≡ s = omega arith in
    let first : s + 0 < length l = (w.0.1.1 0 some).0 in
    let g : IsGapAfter l (reversed_prefix 0 clue j) (e - c) =
    search (rules, closed_prefix_to l (reversed_prefix 0 clue j) s (omega arith) w.0.1.0, start) in
    let b = w.1 in
    let agree = agrees_span l true c s (e + 1) b.0 (omega arith) w.0.1.1 b.1 in
    let clue_at : c ∷ drop (j + 1) clue ≡ drop j clue = rw add-one (sym (drop-cons clue j 0 jl)) in
    (g, (g.0, (replicate c true ++ b.0, rw next agree, runs_first c b.0 some b.3 ∙ ap (λ (rs : List ℕ). c ∷ rs) b.2 ∙ clue_at)))
