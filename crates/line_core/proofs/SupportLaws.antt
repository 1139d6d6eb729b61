-- The support masks of a line determine the deduced line.
use Rattle.line_core.proofs.Names.{rules, ◌∙◌, ◌≡◌, ℕ, ◌<◌, ◌⊎◌, inl, inr, Bool, true, false, not, ◌&&◌, List, length, get_or, Some, None, refl, arith, ext_get_or, length-map-range_with_len, get_or-map-range_with_len, Cell, Unknown, Has, has, IsMaskOf, has_true, true_has, deduced, IsFillable, IsBlankable, ArePositive, has_by, ◌||◌, cases_Bool, deduced_cell, deduced_from, zero-add, placings, shared, false_from_ne_true, or_right, or_left, ◌∷◌, [], ap}
use Rattle.grid_core.specs.Lines.{cell_with, line_cells}
use Rattle.grid_core.proofs.LineCells.{line_is}
use Rattle.line_core.proofs.DeductionLaws.{ListsPlacings, placings_listed, no_placing, agrees_is}
use Rattle.line_core.proofs.FeasibleEnds.{IsInSupport, in_support_is}
use Rattle.line_core.proofs.DeducedCells.{CanBe, IsTestOf, deduced_cell_is}

pub either_first : (f b m : ℕ) → IsMaskOf (λ i. Has f i ⊎ Has b i) m → (has f 0 || has b 0) ≡ has m 0
either_first f b m p = grind (arith, p.to 0, p.from 0, has_true, true_has, has_by)

-- if the first cell can have no colour, the line is dead
pub none_deduced : (len f b m : ℕ) → IsMaskOf (λ i. Has f i ⊎ Has b i) m → has m 0 ≡ false → None ≡ deduced_from len f b
none_deduced len f b m p none = rw (either_first f b m p, none) refl

without_at : (len f b all d n i : ℕ) → i < len → IsMaskOf (λ i. i < len) all → IsMaskOf (λ i. Has f i × (has b i ≡ false)) d
    → IsMaskOf (λ i. Has d i × Has all i) n → has n i ≡ (has f i && not (has b i))
without_at len f b all d n i l pa pd p = search rules

cell_deduced : (f b : Bool) → deduced_cell f b ≡ cell_with (f && not b) (b && not f)
cell_deduced f b = grind arith

-- if the first cell can have a colour, each cell is deduced from the two masks
pub some_deduced : (len f b m all df db nf nb : ℕ) → IsMaskOf (λ i. Has f i ⊎ Has b i) m → has m 0 ≡ true → IsMaskOf (λ i. i < len) all
    → IsMaskOf (λ i. Has f i × (has b i ≡ false)) df → IsMaskOf (λ i. Has b i × (has f i ≡ false)) db
    → IsMaskOf (λ i. Has df i × Has all i) nf → IsMaskOf (λ i. Has db i × Has all i) nb → Some (line_cells len nf nb) ≡ deduced_from len f b
some_deduced len f b m all df db nf nb p some pa pf pb qf qb =
    let given = λ (k : ℕ). deduced_cell (has f k) (has b k) in
    let each = λ (i : ℕ) (h : i < len). get_or-map-range_with_len given 0 len i i Unknown h (zero-add i) ∙
    rw (without_at len f b all df nf i h pa pf qf, without_at len b f all db nb i h pa pb qb) (cell_deduced (has f i) (has b i)) in
    rw (either_first f b m p, some) (
    ap (λ (line : List Cell). Some line) (line_is len nf nb _ (length-map-range_with_len given 0 len) each))

-- ---- the deduction

-- what is computed from the support masks is the deduced line
pub support-deduced : (l : List Cell) (clue : List ℕ) (len f b : ℕ) → ArePositive clue → 0 < len → length l ≡ len
    → IsMaskOf (IsFillable l clue) f → IsMaskOf (IsBlankable l clue) b → deduced_from len f b ≡ deduced l clue
support-deduced l clue len f b pos some long fill blank = by (placings l clue) (placings_listed l clue)
  where
    tests : (v : Bool) (m : ℕ) → IsMaskOf (IsInSupport l clue v) m → (k : ℕ) → k < length l → IsTestOf (CanBe l clue v k) (has m k)
    tests v m p k h =
        let t = in_support_is l clue v k pos in
        record { to = λ e. (t.0 (p.to k (true_has m k e))).1; from = λ x. has_true m k (p.from k (t.1 (h, x))) }

    by : (ps : List (List Bool)) → ListsPlacings l clue ps → deduced_from len f b ≡ shared (length l) ps
    by [] listed =
        let none : (v : Bool) (m : ℕ) → IsMaskOf (IsInSupport l clue v) m → has m 0 ≡ false = λ v m p. false_from_ne_true (has m 0) (λ e.
        let x = (tests v m p 0 (omega arith)).to e in
        no_placing l clue listed x.0 (record { extends = (agrees_is l x.0).0 x.1; runs_are = x.2 })) in
        rw (none true f fill, none false b blank) refl
    by (x ∷ ys) listed =
        let p = listed.members 0 x (omega arith) in
        let cells = λ (k : ℕ) (h : k < length l).
        deduced_cell_is l clue (x ∷ ys) k listed x p (has f k) (has b k) (tests true f fill k h) (tests false b blank k h) in
        let agree = (agrees_is l x).1 p.extends in
        let first : (has f 0 || has b 0) ≡ true = elim (cases_Bool (get_or x 0 false)) [
          | inl e ↦ or_left (has f 0) (has b 0) ((tests true f fill 0 (omega arith)).from (x, agree, p.runs_are, e))
          | inr e ↦ or_right (has f 0) (has b 0) ((tests false b blank 0 (omega arith)).from (x, agree, p.runs_are, e))
        ] in
        rw first (ap (λ (cells : List Cell). Some cells) (ext_get_or Unknown _ _ (search (rules, length-map-range_with_len))
        (λ k h. search (rules, length-map-range_with_len, get_or-map-range_with_len, cells))))
