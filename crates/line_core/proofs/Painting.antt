-- Full lines made of given starts: starts that lay out a clue are those of a placing.
use Rattle.line_core.proofs.Names.{false_from_ne_true, ◌≡◌, ℕ, zero, suc, ◌+◌, ◌-◌, ◌<◌, ◌≤◌, Bool, true, false, List, [], ◌∷◌, ◌++◌, length, replicate, refl, sym, ap, ◌∙◌, arith, inl, inr, add-zero, drop, get_or, drop_of_length-le, rules, cases_lt, and_parts, Cell, Unknown, allows, agrees, runs, AllFrom, Direction, Left, Right, IsAsFar, MayBe, ArePositive, common_steps}
use Rattle.line_core.proofs.Joining.{filled_agrees, agrees_span, runs_first}
use Rattle.line_core.proofs.RunStarts.{starts_from, length-run_starts, run_of, filled_in_run, runs_apart, covered}

-- each run ends before the next one starts, with at least one cell between them
abbrev pub StandApart : List ℕ → List ℕ → Type 0
StandApart clue ss = (j : ℕ) → suc j < length clue → get_or ss j 0 + get_or clue j 0 < get_or ss (suc j) 0

-- cell `i` is in none of the runs
abbrev pub IsFree : List ℕ → List ℕ → ℕ → Type 0
IsFree clue ss i = (j : ℕ) → j < length clue → get_or ss j 0 ≤ i → i < get_or ss j 0 + get_or clue j 0 → ⊥

-- starts that lay out the runs of a clue on a line: each run on cells that can be filled, all apart, and every other
-- cell can be blank
pub record IsLaid (l : List Cell) (clue ss : List ℕ) : Type 0 where
  pub count : length ss ≡ length clue
  pub windows : (j : ℕ) → j < length clue → AllFrom (MayBe l true) (get_or clue j 0) (get_or ss j 0)
  pub apart : StandApart clue ss
  pub blanks : (i : ℕ) → i < length l → IsFree clue ss i → MayBe l false i

agrees_at : (l : List Cell) (x : List Bool) (i : ℕ) → agrees l x ≡ true → i < length l
    → allows (get_or l i Unknown) (get_or x i false) ≡ true
agrees_at (c ∷ l) (b ∷ x) i a h = search (rules, and_parts, agrees_at l x)
agrees_at l x i a h = search rules

-- the starts of a placing lay out the clue
pub laid : (l : List Cell) (clue : List ℕ) (x : List Bool) → agrees l x ≡ true → runs x ≡ clue → IsLaid l clue (starts_from 0 false x)
laid l clue x agree is = record {
  count = length-run_starts x ∙ ap length is;
  windows =
      λ j h z b. let filled = filled_in_run x clue j (run_of x clue j is h) z b in grind (arith, common_steps, filled_agrees, agrees_at);
  apart = λ j h. runs_apart x clue j is h;
  blanks = λ i h free.
      let blank = false_from_ne_true (get_or x i false) (λ e. let c = covered x clue i is e in free c.index c.inside c.from c.to) in
      search (rules, agrees_at, sym blank);
}

-- ---- the full line that is made of starts

first_least : (clue ss : List ℕ) → StandApart clue ss → (j : ℕ) → j < length clue → get_or ss 0 0 ≤ get_or ss j 0
first_least clue ss apart zero h = omega arith
first_least clue ss apart (suc j) h = omega (arith, first_least clue ss apart j (omega arith), apart j h)

runs_blanks : (m : ℕ) (y : List Bool) → runs (replicate m false ++ y) ≡ runs y
runs_blanks zero y = refl
runs_blanks (suc m) y = runs_blanks m y

starts_past : (v : Bool) (m p q : ℕ) (y : List Bool) → p + m ≡ q → starts_from p v (replicate m v ++ y) ≡ starts_from q v y
starts_past v zero p q y e = ap (λ (k : ℕ). starts_from k v y) (sym (add-zero p) ∙ e)
starts_past v (suc m) p q y e = search (rules, starts_past v m (suc p) q y)

starts_first : (m c p s : ℕ) (y : List Bool) (ss : List ℕ) → p + m ≡ s → 0 < c → get_or y 0 false ≡ false
    → starts_from (s + c) false y ≡ ss → starts_from p false (replicate m false ++ (replicate c true ++ y)) ≡ s ∷ ss
starts_first m (suc n) p s y ss e h k r = grind (arith, common_steps, starts_past)
starts_first m zero p s y ss e h k r = absurd (omega arith)

-- the cells from index `p` on of a line with runs at the starts
record Painted (l : List Cell) (p : ℕ) (clue ss : List ℕ) : Type 0 where
  full : List Bool
  agree : agrees (drop p l) full ≡ true
  runs_are : runs full ≡ clue
  starts_are : starts_from p false full ≡ ss
  head : (0 < length clue → p < get_or ss 0 0) → get_or full 0 false ≡ false

paint : (l : List Cell) (p : ℕ) (clue ss : List ℕ) → ArePositive clue → p ≤ length l → length ss ≡ length clue
    → (0 < length clue → p ≤ get_or ss 0 0)
    → ((j : ℕ) → j < length clue → AllFrom (MayBe l true) (get_or clue j 0) (get_or ss j 0)) → StandApart clue ss
    → ((i : ℕ) → p ≤ i → i < length l → IsFree clue ss i → MayBe l false i) → Painted l p clue ss
paint l p [] [] pos h e first windows apart blanks =
    let m = length l - p in record {
      full = replicate m false ++ [];
      agree = search (rules, agrees_span, blanks, drop_of_length-le);
      runs_are = runs_blanks m [];
      starts_are = starts_past false m p (length l) [] (omega arith);
      head = λ h. grind (arith, common_steps);
    }
paint l p (c ∷ clue) (s ∷ ss) pos h e first windows apart blanks =
    let start : p ≤ s = first (omega arith) in
    let window : AllFrom (MayBe l true) c s = windows 0 (omega arith) in
    let last = (window (c - 1) (omega arith)).0 in
    let next : 0 < length clue → s + c < get_or ss 0 0 = λ h. apart 0 (omega arith) in
    let rest = paint l (s + c) clue ss pos.1 (omega arith) (omega arith) (λ h. omega (arith, next h)) (λ j h. windows (suc j) (omega arith))
    (λ j h. apart (suc j) (omega arith)) (λ i a h free. blanks i (omega arith) h (λ j. grind (arith, free (j - 1)))) in
    let y = replicate c true ++ rest.full in
    let closed = rest.head next in record {
      full = replicate (s - p) false ++ y;
      agree = agrees_span l false (s - p) p s y (omega arith) (λ z b. search (rules, blanks (p + z), first_least))
          (agrees_span l true c s (s + c) rest.full refl window rest.agree);
      runs_are = grind (arith, common_steps, runs_blanks, runs_first);
      starts_are = starts_first (s - p) c p s rest.full ss (omega arith) pos.0 closed rest.starts_are;
      head = λ h. grind (arith, common_steps);
    }
paint l p clue ss pos h e first windows apart blanks = absurd (omega arith)

-- starts that lay out a clue are those of a placing
pub placing_of : (l : List Cell) (clue ss : List ℕ) → ArePositive clue → IsLaid l clue ss
    → (x : List Bool) × (agrees l x ≡ true) × (runs x ≡ clue) × (starts_from 0 false x ≡ ss)
placing_of l clue ss pos d =
    let x = paint l 0 clue ss pos (omega arith) d.count (λ h. omega arith) d.windows d.apart (λ i a h free. d.blanks i h free) in
    (x.full, x.agree, x.runs_are, x.starts_are)

-- ---- the least and the greatest starts

-- each run ends before all later runs start
ends_before : (clue ss : List ℕ) → StandApart clue ss → (i j : ℕ) → i < j → j < length clue
    → get_or ss i 0 + get_or clue i 0 < get_or ss j 0
ends_before clue ss apart i (suc j) h k = grind (arith, apart j, ends_before clue ss apart i j)
ends_before clue ss apart i zero h k = absurd (omega arith)

-- starts that lay out the clue, in which run `j` starts at `s`
pub record Witness (l : List Cell) (clue : List ℕ) (j s : ℕ) : Type 0 where
  pub starts : List ℕ
  pub laid_so : IsLaid l clue starts
  pub at : get_or starts j 0 ≡ s

-- each start in `m` occurs in starts that lay out the clue, and is as far in a direction as in all such starts
pub record AreFurthest (direction : Direction) (l : List Cell) (clue m : List ℕ) : Type 0 where
  pub count : length m ≡ length clue
  pub some : List ℕ
  pub some_laid : IsLaid l clue some
  pub each : (j : ℕ) → j < length clue → Witness l clue j (get_or m j 0)
  pub furthest : (ss : List ℕ) → IsLaid l clue ss → (j : ℕ) → j < length clue → IsAsFar direction (get_or m j 0) (get_or ss j 0)

-- the first `n` runs end at or before cell `i`, and all others start after it
abbrev Cut : List ℕ → List ℕ → ℕ → ℕ → Type 0
Cut clue ss i n = ((q : ℕ) → q < n → get_or ss q 0 + get_or clue q 0 ≤ i) × ((q : ℕ) → n ≤ q → q < length clue → i < get_or ss q 0)

-- for each cell that is in no run, some of the first runs end at or before it, and all others start after it
cut_of : (clue ss : List ℕ) (i n : ℕ) → StandApart clue ss → IsFree clue ss i → n ≤ length clue
    → ((q : ℕ) → n ≤ q → q < length clue → i < get_or ss q 0) → (k : ℕ) × (k ≤ length clue) × Cut clue ss i k
cut_of clue ss i zero apart free h later = search rules
cut_of clue ss i (suc n) apart free h later =
    elim (cases_lt i (get_or ss n 0)) [
      | inl low ↦ cut_of clue ss i n apart free (omega arith)
          (λ q a b. elim (cases_lt n q) [ inl more ↦ later q more b | inr near ↦ (let e : q ≡ n = omega arith in rw e low) ])
      | inr high ↦ (suc n, h, ((λ q a. grind (arith, free n, ends_before clue ss apart q n)), later))
    ]

-- a cell can be blank if the first `n` runs end at or before it, and all others start after it
blank_at : (l : List Cell) (clue ss : List ℕ) (i n : ℕ) → IsLaid l clue ss → i < length l → Cut clue ss i n → MayBe l false i
blank_at l clue ss i n d h (before, after) = search rules

furthest_blank : (direction : Direction) (l : List Cell) (clue m : List ℕ) (i n : ℕ) → AreFurthest direction l clue m → i < length l
    → n ≤ length clue
    → Cut clue m i n → MayBe l false i
furthest_blank Left l clue m i zero f h k (before, after) = search rules
furthest_blank Left l clue m i (suc n) f h k (before, after) =
    let w = f.each n (omega arith) in
    blank_at l clue w.starts i (suc n) w.laid_so h (
      (λ q a. grind (arith, before n, ends_before clue w.starts w.laid_so.apart q n)),
      (λ q a b. grind (arith, after q, f.furthest w.starts w.laid_so q)),
    )
furthest_blank Right l clue m i n f h k (before, after) = elim (cases_lt n (length clue)) [
  | inl more ↦
      (let w = f.each n more in
      blank_at l clue w.starts i n w.laid_so h (
        (λ q a. grind (arith, before q, f.furthest w.starts w.laid_so q)),
        (λ q a b. grind (arith, after n, ends_before clue w.starts w.laid_so.apart n q)),
      ))
  | inr all ↦ search rules
]

-- the furthest starts of all runs together lay out the clue
pub furthest_laid : (direction : Direction) (l : List Cell) (clue m : List ℕ) → AreFurthest direction l clue m → IsLaid l clue m
furthest_laid direction l clue m f =
    let apart : StandApart clue m = λ j h. search rules in
    record {
      count = f.count;
      windows = λ j h. let w = f.each j h in rw w.at at (w.laid_so.windows j h);
      apart = apart;
      blanks = λ i h free.
          let cut = cut_of clue m i (length clue) apart free (omega arith) (λ q a b. absurd (omega arith)) in
          search (rules, furthest_blank);
    }
