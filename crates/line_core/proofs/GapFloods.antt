-- Gaps and ends of runs, as floods compute them and as placings of the cells before them define them.
use Rattle.line_core.proofs.Names.{rules, ◌≡◌, ℕ, zero, suc, ◌+◌, ◌-◌, ◌<◌, ◌≤◌, Bool, true, false, List, [], ◌∷◌, ◌++◌, length, replicate, refl, sym, arith, ◌⊎◌, inl, inr, get_or, and_from, and_parts, Cell, Unknown, allows, agrees, runs, IsFlooded, AllFrom, reversed_prefix, HasPlacing, MayBe, IsGapAfter, IsEndAfter}
use Rattle.line_core.proofs.Joining.{begins, begins_some, runs_about, closed_first}

-- a placing may be preceded by one more blank cell
pub blank_before : (c : Cell) (cells : List Cell) (cs : List ℕ) → allows c false ≡ true → HasPlacing cells cs → HasPlacing (c ∷ cells) cs
blank_before c cells cs a p = let q = (closed_first c cells cs).1 (a, p) in (q.0, q.1, q.2)

-- a placing begins with a blank cell, or with a run
first_cell : (c : Cell) (cells : List Cell) (cs : List ℕ) → HasPlacing (c ∷ cells) cs
    → ((allows c false ≡ true) × HasPlacing cells cs) ⊎ ((n : ℕ) × (y : List Bool) × (0 < n)
    × (agrees (c ∷ cells) (replicate n true ++ y) ≡ true) × (n ∷ runs y ≡ cs) × (get_or y 0 false ≡ false))
first_cell c cells cs (true ∷ y, agree, is) =
    let b = begins (true ∷ y) in
    let runs_are = runs_about [] b.count b.rest (begins_some (true ∷ y) b refl) refl b.closed in search (rules, begins_some, runs_are, b)
first_cell c cells cs (y, agree, is) = search rules

-- a cell reached from the start of the line over cells that can be blank is a gap before the first run
pub first_gap_to : (l : List Cell) (i : ℕ) → IsFlooded (λ k. (k ≡ 0) × MayBe l false k) (MayBe l false) i → IsGapAfter l [] i
first_gap_to l zero f = (f.1, ([], refl, refl))
first_gap_to l (suc i) f = search (rules, first_gap_to l i, blank_before)

-- each gap before the first run is reached so
pub first_gap_from : (l : List Cell) (i : ℕ) → IsGapAfter l [] i → IsFlooded (λ k. (k ≡ 0) × MayBe l false k) (MayBe l false) i
first_gap_from l zero g = (refl, g.0)
first_gap_from l (suc i) g = search (rules, first_cell (get_or l i Unknown) (reversed_prefix Unknown l i) [] g.1, first_gap_from l i)

-- the cell can be filled
abbrev MayFill : List Cell → ℕ → Type 0
MayFill l k = allows (get_or l k Unknown) true ≡ true

-- a run of `m` cells before index `p`, with `rest` before it, lies on cells that can be filled
open_run : (l : List Cell) (m p : ℕ) (rest : List Bool) → agrees (reversed_prefix Unknown l p) (replicate m true ++ rest) ≡ true
    → (q : ℕ) × (q + m ≡ p) × AllFrom (MayFill l) m q × (agrees (reversed_prefix Unknown l q) rest ≡ true)
open_run l (suc m) (suc p) rest h = search (rules, and_parts, open_run l m p rest)
open_run l m p rest h = search rules

run_open : (l : List Cell) (m p q : ℕ) (rest : List Bool) → q + m ≡ p → AllFrom (MayFill l) m q
    → agrees (reversed_prefix Unknown l q) rest ≡ true → agrees (reversed_prefix Unknown l p) (replicate m true ++ rest) ≡ true
run_open l zero p q rest e cells h = let same : p ≡ q = omega arith in rw same h
run_open l (suc m) zero q rest e cells h = absurd (omega arith)
run_open l (suc m) (suc p) q rest e cells h = let at : p ≡ q + m = omega arith in search (rules, at, and_from, run_open l m p q rest)

-- a run of `n` cells up to cell `i`, before which no filled cell stands, ends there
end_from_run : (l : List Cell) (cs : List ℕ) (n i q : ℕ) (rest : List Bool) → i < length l → q + n ≡ suc i → AllFrom (MayFill l) n q
    → agrees (reversed_prefix Unknown l q) rest ≡ true → runs rest ≡ cs → get_or rest 0 false ≡ false → IsEndAfter l cs n i
end_from_run l cs n i q rest within e cells h is closed = search rules

pub run_from_end : (l : List Cell) (cs : List ℕ) (n i : ℕ) → 0 < n → IsEndAfter l cs n i
    → HasPlacing (reversed_prefix Unknown l (suc i)) (n ∷ cs)
run_from_end l cs n i some x =
    let agree = run_open l n (suc i) (i + 1 - n) x.1.0.0 (omega (arith, x.0)) (λ z b. (x.1.1 z b).1) x.1.0.1 in
    search (rules, runs_about [] n x.1.0.0 some)

-- a flood for the gaps after a run starts at the cells right after its ends, and runs over cells that can be blank
abbrev pub After : List Cell → ℕ → List ℕ → ℕ → Type 0
After l n cs k = MayBe l false k × (1 ≤ k) × IsEndAfter l cs n (k - 1)

-- a cell that this flood reaches is a gap after the run
pub gap_after_to : (l : List Cell) (cs : List ℕ) (n i : ℕ) → 0 < n → IsFlooded (After l n cs) (MayBe l false) i → IsGapAfter l (n ∷ cs) i
gap_after_to l cs n zero some f = absurd (omega (arith, f.1))
gap_after_to l cs n (suc i) some (inl f) = let e : suc i - 1 ≡ i = omega arith in (f.0, run_from_end l cs n i some (rw e at f.2))
gap_after_to l cs n (suc i) some (inr f) = search (rules, gap_after_to l cs n i some, blank_before)

-- each gap after the run is reached by this flood
pub gap_after_from : (l : List Cell) (cs : List ℕ) (n i : ℕ) → IsGapAfter l (n ∷ cs) i → IsFlooded (After l n cs) (MayBe l false) i
gap_after_from l cs n (suc i) g = elim (first_cell (get_or l i Unknown) (reversed_prefix Unknown l i) (n ∷ cs) g.1) [
  | inl b ↦ search (rules, gap_after_from l cs n i)
  | inr r ↦
      (let o = open_run l r.0 (suc i) r.1 r.3 in
      let same : r.0 ≡ n = cc r.4 in
      let others : runs r.1 ≡ cs = cc r.4 in
      let e : suc i - 1 ≡ i = omega arith in
      inl (g.0, omega arith, rw (e, sym same) (end_from_run l cs r.0 i o.0 r.1 (omega (arith, g.0.0)) o.1 o.2 o.3 others r.5)))
]
gap_after_from l cs n zero g = search rules
