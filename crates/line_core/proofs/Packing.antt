-- Placings on an unknown line: the runs at their least starts, some of them moved right.
use Rattle.line_core.proofs.Names.{◌↔◌, common_steps, rules, ◌≡◌, ℕ, zero, suc, ◌+◌, ◌-◌, ◌*◌, ◌<◌, ◌≤◌, ◌≢◌, Bool, true, false, cond, List, length, replicate, map, nat_le, nat_lt, sym, ap, ◌∙◌, arith, add-one, true≢false, ◌⊎◌, inl, inr, get_or, ext_get_or, range_with_len, false_from_ne_true, cases_lt, take_all, length-replicate, length-map-range_with_len, get_or-map-range_with_len, sum_by_more, sum_by-take-le, Cell, Unknown, agrees, runs, Has, has, IsMaskOf, IsShifted, has_true, true_has, mask_same, AreLengths, MayBe, IsFillable, IsBlankable, has_by, ArePositive, length_at, lacks, none_has, none_in, needed, least_start, IsOverlapBefore, IsOverlap}
use Rattle.std.proofs.lemmas.Bool.Decides.{nat_tests}
use Rattle.line_core.proofs.Joining.{positive_at, filled_agrees}
use Rattle.line_core.proofs.FeasibleEnds.{IsInSupport, in_support_mask, none_in_support}
use Rattle.line_core.proofs.RunStarts.{starts_from, in_run, covered}
use Rattle.line_core.proofs.Painting.{IsLaid, laid, placing_of}
use Rattle.line_core.proofs.DeducedCells.{CanBe}

-- ---- the least starts

-- a run's least start is one blank cell after the run before it at its least start
pub start_next : (clue : List ℕ) (j : ℕ) → j < length clue → least_start clue (suc j) ≡ least_start clue j + get_or clue j 0 + 1
start_next clue j h = omega (arith, rw (add-one j) at (sum_by_more (λ (n : ℕ). n + 1) clue j 0 h))

pub start_last : (clue : List ℕ) → least_start clue (length clue) ≡ needed clue
start_last clue = ap needed (take_all (length clue) clue (omega arith))

-- no least start is greater than what the whole clue needs
pub start_within : (clue : List ℕ) (j : ℕ) → least_start clue j ≤ needed clue
start_within clue j = sum_by-take-le (λ (n : ℕ). n + 1) clue j

-- a bound for the least starts of runs of at most 256 cells
pub start_few : (clue : List ℕ) (j : ℕ) → AreLengths 256 clue → j < length clue → least_start clue j + (get_or clue j 0 + 1) ≤ 257 * (j + 1)
start_few clue zero are h = omega (arith, (length_at 256 clue 0 are h).1)
start_few clue (suc j) are h = search (rules, length_at, start_next, start_few clue j are (omega arith))

-- ---- where the runs of placings start

module _ (l : List Cell) (clue : List ℕ) (pos : ArePositive clue) where
  at_least : (ss : List ℕ) (j : ℕ) → IsLaid l clue ss → j < length clue → least_start clue j ≤ get_or ss j 0
  at_least ss zero d h = omega arith
  at_least ss (suc j) d h = omega (arith, at_least ss j d (omega arith), start_next clue j (omega arith), d.apart j h)

  at_most : (ss : List ℕ) (later j : ℕ) → IsLaid l clue ss → j + suc later ≡ length clue
      → get_or ss j 0 + needed clue ≤ length l + 1 + least_start clue j
  at_most ss zero j d e =
      let some = positive_at clue pos j (omega arith) in
      let end : suc j ≡ length clue = omega arith in
      let last = (d.windows j (omega arith) (get_or clue j 0 - 1) (omega arith)).0 in
      omega (arith, start_next clue j (omega arith), ap (least_start clue) end, start_last clue)
  at_most ss (suc later) j d e = search (rules, start_next, at_most ss later (suc j) d (omega arith))

  starts_within : (ss : List ℕ) (j : ℕ) → IsLaid l clue ss → j < length clue
      → get_or ss j 0 + needed clue ≤ length l + 1 + least_start clue j
  starts_within ss j d h = at_most ss (length clue - suc j) j d (omega arith)

  -- an overlap is filled in each placing
  overlap_filled : (x : List Bool) (slack i : ℕ) → agrees l x ≡ true → runs x ≡ clue → needed clue + slack ≡ length l + 1
      → IsOverlap clue slack i → get_or x i false ≡ true
  overlap_filled x slack i agree is e (j, h, from, to) =
      let d = laid l clue x agree is in
      in_run x clue j i is h (omega (arith, starts_within (starts_from 0 false x) j d h))
      (omega (arith, at_least (starts_from 0 false x) j d h))

  -- a clue that has a placing does not need more cells than the line has
  fits : (x : List Bool) → agrees l x ≡ true → runs x ≡ clue → needed clue ≤ length l + 1
  fits x agree is =
      grind (arith, cases_lt 0 (length clue), starts_within (starts_from 0 false x) 0 (laid l clue x agree is), start_last clue)

  -- if it needs more, the support is empty
  pub unfit : (v : Bool) (m : ℕ) → length l + 1 < needed clue → m ≡ 0 → IsMaskOf (IsInSupport l clue v) m
  unfit v m long e = none_in_support l clue v m pos e (λ x agree is. omega (arith, fits x agree is))

-- ---- placings on an unknown line

-- each cell can have each colour
abbrev pub AnyColour : List Cell → Type 0
AnyColour l = (v : Bool) (i : ℕ) → i < length l → MayBe l v i

-- on an unknown line each cell can have each colour
pub unknown_any : (len : ℕ) → AnyColour (replicate len Unknown)
unknown_any len v i h = grind (arith, common_steps)

-- some run fills the cell `i` from one of its starts
abbrev Reaches : List ℕ → ℕ → ℕ → Type 0
Reaches clue slack i = (j : ℕ) × (j < length clue) × (least_start clue j ≤ i) × (i < least_start clue j + get_or clue j 0 + slack)

reaches : (clue : List ℕ) (slack i j : ℕ) → 0 < slack → j < length clue → i < least_start clue j + get_or clue j 0 + slack
    → Reaches clue slack i
reaches clue slack i zero some h to = (0, h, omega arith, to)
reaches clue slack i (suc j) some h to = search (rules, cases_lt, start_next, reaches clue slack i j some)

module _ (l : List Cell) (clue : List ℕ) (slack : ℕ) (any_cell : AnyColour l) (pos : ArePositive clue)
    (e : needed clue + slack ≡ length l + 1) where
  -- a placing whose runs start `shift` cells after their least starts
  shifted : (shift : ℕ → ℕ) → ((j : ℕ) → shift j ≤ slack) → ((j : ℕ) → suc j < length clue → shift j ≤ shift (suc j))
      → (x : List Bool) × (agrees l x ≡ true) × (runs x ≡ clue)
      × ((j : ℕ) → j < length clue → get_or (starts_from 0 false x) j 0 ≡ least_start clue j + shift j)
  shifted shift most up =
      let start = λ (j : ℕ). least_start clue j + shift j in
      let at = λ (j : ℕ) (h : j < length clue). get_or-map-range_with_len start 0 (length clue) j j 0 h (omega arith) in
      let x = placing_of l clue (map start (range_with_len 0 (length clue))) pos
      (grind (arith, common_steps, length-map-range_with_len, start_next, start_within)) in
      (x.0, x.1, x.2, λ j h. ap (λ (z : List ℕ). get_or z j 0) x.3 ∙ at j h)

  -- a cell that is no overlap can be blank: the runs whose greatest start is after the cell are moved there
  can_be_blank : (i : ℕ) → (IsOverlap clue slack i → ⊥) → CanBe l clue false i
  can_be_blank i none =
      let (y, agree, is, starts) = shifted (λ j. cond (nat_le (least_start clue j + slack) i) 0 slack) (λ j. grind (arith, nat_tests))
      (λ j h. let next = start_next clue j (omega arith) in grind (arith, nat_tests)) in (
        y,
        agree,
        is,
        false_from_ne_true (get_or y i false) (λ f.
            let c = covered y clue i is f in
            none (c.index, c.inside, grind (arith, nat_tests, c.from), grind (arith, nat_tests, c.to))),
      )

  -- if some run can fill a cell from one of its starts, the cell can be filled
  filled_by : (i : ℕ) → Reaches clue slack i → CanBe l clue true i
  filled_by i (j, jl, low, high) =
      let by = i + 1 - (least_start clue j + get_or clue j 0) in
      let (y, agree, is, starts) =
      shifted (λ k. cond (nat_lt k j) 0 by) (λ j. grind (arith, nat_tests)) (λ j h. grind (arith, nat_tests)) in
      grind (arith, common_steps, nat_tests, in_run)

  can_be_filled : (i : ℕ) → 0 < slack → 0 < length clue → i < length l → CanBe l clue true i
  can_be_filled i some any within =
      let last = length clue - 1 in
      let end : suc last ≡ length clue = omega arith in
      filled_by i (reaches clue slack i last some (omega arith)
      (omega (arith, start_next clue last (omega arith), ap (least_start clue) end, start_last clue)))

  -- ---- the support masks

  -- the blankable cells: all cells of the line but the overlaps
  pub blankable_is : (overlap line m : ℕ) → IsMaskOf (IsOverlap clue slack) overlap → IsMaskOf (λ i. i < length l) line
      → IsMaskOf (λ i. Has line i × (has overlap i ≡ false)) m → IsMaskOf (IsBlankable l clue) m
  blankable_is overlap line m c a p = in_support_mask l clue false _ m pos p (λ i. (
    λ h. (a.to i h.0, can_be_blank i (λ o. true≢false (sym (has_true overlap i (c.from i o)) ∙ h.1))),
    λ (within, (x, agree, is, at)).
        (a.from i within, lacks overlap i (λ o. true≢false (sym (overlap_filled l clue pos x slack i agree is e (c.to i o)) ∙ at))),
  ))

  -- with some slack and some run, all cells of the line are fillable
  pub all_fillable : (line : ℕ) → 0 < slack → 0 < length clue → IsMaskOf (λ i. i < length l) line → IsMaskOf (IsFillable l clue) line
  all_fillable line some any a = in_support_mask l clue true _ line pos a (λ i. (λ h. (h, can_be_filled i some any h), λ h. h.0))

  -- without slack, or without runs, only the overlaps are fillable
  pub overlaps_fillable : (overlap : ℕ) → (slack ≡ 0) ⊎ (length clue ≡ 0) → IsMaskOf (IsOverlap clue slack) overlap
      → IsMaskOf (IsFillable l clue) overlap
  overlaps_fillable overlap still c = in_support_mask l clue true _ overlap pos c (λ i. (
    λ o. let x = shifted (λ j. 0) (λ j. omega arith) (λ j h. omega arith) in search (rules, filled_agrees, overlap_filled),
    λ (within, (y, agree, is, filled)).
        let at = covered y clue i is filled in
        let low = at_least l clue pos (starts_from 0 false y) at.index (laid l clue y agree is) at.inside in
        let high = starts_within l clue pos (starts_from 0 false y) at.index (laid l clue y agree is) at.inside in
        let none : slack ≡ 0 = grind (arith, at.inside) in search (rules, at),
  ))

-- the overlap of run `j`: the cells from its greatest start on that it fills from its least start
pub overlap_more : (clue : List ℕ) (w slack j start old some shifted new : ℕ) → needed clue + slack ≤ w + 1 → j < length clue
    → slack < get_or clue j 0 → start ≡ least_start clue j + slack → IsMaskOf (IsOverlapBefore j clue slack) old
    → IsMaskOf (λ i. i < get_or clue j 0 - slack) some → IsMaskOf (IsShifted w (Has some) start) shifted
    → IsMaskOf (λ i. Has old i ⊎ Has shifted i) new → IsMaskOf (IsOverlapBefore (j + 1) clue slack) new
overlap_more clue w slack j start old some shifted new within h long at o p q r =
    mask_same _ _ new r (λ i h. search (rules, o.to i, q.to i, p.to (i - start))) (λ i (k, kl, low, high). elim (cases_lt k j) [
      | inl before ↦ inl (o.from i (k, before, low, high))
      | inr last ↦ grind (arith, common_steps, start_next, start_within)
    ])

-- the masks of the cells that can be blank and that can be filled are equal exactly if no cell is known
pub unknown_is : (l : List Cell) (len not_filled not_blank known : ℕ) → len ≡ length l → IsMaskOf (MayBe l false) not_filled
    → IsMaskOf (MayBe l true) not_blank
    → IsMaskOf (λ i. has not_filled i ≢ has not_blank i) known → (known ≡ 0) ↔ (l ≡ replicate len Unknown)
unknown_is l len not_filled not_blank known long f r p = (
  λ e. ext_get_or Unknown l (replicate len Unknown) (sym long ∙ sym (length-replicate len Unknown))
      (λ i h. grind (arith, common_steps, none_has known i e, p.from i, f.to i, r.to i, f.from i, r.from i, has_true, true_has, has_by)),
  λ e. search (rules, none_in, has_by, has_true, true_has, unknown_any),
)
