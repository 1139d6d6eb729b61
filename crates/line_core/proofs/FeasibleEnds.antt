-- The feasible ends of a run and the placings that have them; support by feasible gaps and ends is support by placings.
use Rattle.line_core.proofs.Names.{Bool, false, ◌↔◌, IsBlankable, IsMaskOf, none_is, ◌≡◌, ℕ, ◌+◌, ◌-◌, ◌<◌, true, List, ◌∷◌, ◌++◌, length, replicate, sym, ap, ◌∙◌, arith, add-one, drop, get_or, drop-cons, Cell, Unknown, agrees, runs, reversed_prefix, IsFeasibleEnd, IsFillable, ArePositive, rules}
use Rattle.line_core.proofs.DeducedCells.{CanBe}
use Rattle.line_core.proofs.Joining.{filled_agrees, blankable_to, blankable_from, onto, length-agrees, length_reversed_prefix, onto_reversed_prefix, onto_agrees, agrees_onto, run_agrees, agrees_span, positive_at, runs_about}
use Rattle.line_core.proofs.RunStarts.{starts_from, start_of_cut, length-onto, run_of, in_run, covered}

-- a run of a placing ends at a feasible end
pub feasible_of : (l : List Cell) (clue : List ℕ) (x : List Bool) (k e : ℕ) → agrees l x ≡ true → runs x ≡ clue → k < length clue
    → e + 1 ≡ get_or (starts_from 0 false x) k 0 + get_or clue k 0 → IsFeasibleEnd l clue k e
feasible_of l clue x k e agree is h at =
    let c = get_or clue k 0 in
    let r = run_of x clue k is h in
    let s = get_or (starts_from 0 false x) k 0 in
    let y = replicate c true ++ r.back in
    let size : length r.front + length y ≡ length l = sym (length-onto r.front y) ∙ ap length r.whole ∙ length-agrees l x agree in
    let cut = onto_agrees (reversed_prefix Unknown l s) (drop s l) r.front y (length_reversed_prefix Unknown l s ∙ sym r.start)
    (rw (onto_reversed_prefix Unknown l s (omega (arith, r.start)), r.whole) agree) in
    let run = run_agrees l c s r.back cut.1 in search (rules, add-one)

-- for each feasible end there is a placing in which the run ends there
pub placing_with : (l : List Cell) (clue : List ℕ) (k e : ℕ) → ArePositive clue → k < length clue → IsFeasibleEnd l clue k e
    → (x : List Bool) × (agrees l x ≡ true) × (runs x ≡ clue) × (get_or (starts_from 0 false x) k 0 ≡ e + 1 - get_or clue k 0)
placing_with l clue k e pos h ((enough, ((a, agree_a, runs_a, closed_a), cells)), (b, agree_b, runs_b, closed_b)) =
    let c = get_or clue k 0 in
    let some : 0 < c = positive_at clue pos k h in
    let s = e + 1 - c in
    let first = (cells 0 some).0 in
    let here = agrees_span l true c s (e + 1) b (omega arith) cells agree_b in
    let long : length a ≡ s = length-agrees (reversed_prefix Unknown l s) a agree_a ∙ length_reversed_prefix Unknown l s in
    let clue_at : c ∷ drop (k + 1) clue ≡ drop k clue = search (rules, add-one, drop-cons) in
    let index : length (runs a) ≡ k = search (rules, length_reversed_prefix) in
    let whole = agrees_onto (reversed_prefix Unknown l s) (drop s l) a (replicate c true ++ b) agree_a here in (
      onto a (replicate c true ++ b),
      search (rules, onto_reversed_prefix),
      search (rules, runs_about, onto_reversed_prefix),
      search (rules, start_of_cut),
    )

-- a cell that is fillable by the feasible ends is filled in a placing
pub fillable_to : (l : List Cell) (clue : List ℕ) (i : ℕ) → ArePositive clue → IsFillable l clue i → CanBe l clue true i
fillable_to l clue i pos (j, jl, (z, zb, w)) =
    let x = placing_with l clue j (i + z) pos jl w in (x.0, x.1, x.2, grind (arith, in_run x.0 clue j i x.2 jl, w.0.0))

-- a cell that is filled in a placing is fillable by the feasible ends
pub fillable_from : (l : List Cell) (clue : List ℕ) (i : ℕ) → CanBe l clue true i → IsFillable l clue i
fillable_from l clue i (x, agree, is, at) =
    let c = covered x clue i is at in
    let z = get_or (starts_from 0 false x) c.index 0 + get_or clue c.index 0 - 1 - i in (
      c.index,
      c.inside,
      (z, omega (arith, c.from, c.to), feasible_of l clue x c.index (i + z) agree is c.inside (omega (arith, c.from, c.to))),
    )

-- a cell can have the colour `v`, by the feasible gaps and ends
abbrev pub IsInSupport : List Cell → List ℕ → Bool → ℕ → Type 0
IsInSupport l clue true = IsFillable l clue
IsInSupport l clue false = IsBlankable l clue

-- a cell can have a colour by the feasible gaps and ends exactly if it has it in some placing
pub in_support_is : (l : List Cell) (clue : List ℕ) (v : Bool) (i : ℕ) → ArePositive clue
    → IsInSupport l clue v i ↔ ((i < length l) × CanBe l clue v i)
in_support_is l clue true i pos =
    (λ h. let x = fillable_to l clue i pos h in (filled_agrees l x.0 i x.1 x.3, x), λ h. fillable_from l clue i h.1)
in_support_is l clue false i pos = (λ h. (h.2.0.0, blankable_to l clue i h), λ h. blankable_from l clue i h.0 h.1)

-- so a mask of the cells that have a colour in some placing is a support mask of that colour
pub in_support_mask : (l : List Cell) (clue : List ℕ) (v : Bool) (P : ℕ → Type 0) (m : ℕ) → ArePositive clue → IsMaskOf P m
    → ((i : ℕ) → P i ↔ ((i < length l) × CanBe l clue v i)) → IsMaskOf (IsInSupport l clue v) m
in_support_mask l clue v P m pos p same = search (rules, in_support_is)

-- if there is no placing, the empty mask is a support mask
pub none_in_support : (l : List Cell) (clue : List ℕ) (v : Bool) (m : ℕ) → ArePositive clue → m ≡ 0
    → ((x : List Bool) → agrees l x ≡ true → runs x ≡ clue → ⊥) → IsMaskOf (IsInSupport l clue v) m
none_in_support l clue v m pos e none = none_is _ m e (λ i h. let x = ((in_support_is l clue v i pos).0 h).1 in none x.0 x.1 x.2)
