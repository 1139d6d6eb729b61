-- A clue of a single run: the starts of the run determine which cells can be filled and which can be blank.
use Rattle.line_core.proofs.Names.{false_from_ne_true, rules, ◌≡◌, ℕ, ◌+◌, ◌-◌, ◌<◌, ◌≤◌, Bool, true, false, List, [], ◌∷◌, length, ap, arith, ◌⊎◌, inl, inr, get_or, cases_lt, Cell, agrees, runs, Has, has, IsMaskOf, IsShifted, AllFrom, SomeFrom, has_true, mask_same, MayBe, IsFillable, IsBlankable, ArePositive, lacks, none_has, common_steps, true_has, true_from_ne_false}
use Rattle.line_core.specs.steps.SingleRun.{IsSingleRunStart}
use Rattle.line_core.proofs.Joining.{blankable_to, blankable_from}
use Rattle.line_core.proofs.FeasibleEnds.{fillable_to, fillable_from, IsInSupport, none_in_support}
use Rattle.line_core.proofs.RunStarts.{starts_from, in_run, covered}
use Rattle.line_core.proofs.Painting.{laid, placing_of}

-- ---- placings and starts

module _ (l : List Cell) (clue : List ℕ) (one : length clue ≡ 1) where
  abbrev number : ℕ
  number = get_or clue 0 0

  -- where the run of a placing starts
  abbrev start_of : List Bool → ℕ
  start_of x = get_or (starts_from 0 false x) 0 0

  -- for each start of the run there is a placing
  single_run_placing : (s : ℕ) → ArePositive clue → IsSingleRunStart l number s
      → (x : List Bool) × (agrees l x ≡ true) × (runs x ≡ clue) × (start_of x ≡ s)
  single_run_placing s pos start =
      let p = placing_of l clue (s ∷ []) pos (search rules) in (p.0, p.1, p.2, ap (λ (ss : List ℕ). get_or ss 0 0) p.3)

  single_run_start : (x : List Bool) → agrees l x ≡ true → runs x ≡ clue → IsSingleRunStart l number (start_of x)
  single_run_start x agree is =
      let d = laid l clue x agree is in
      record { fit = d.windows 0 (omega arith); blanks = λ i h not_filled. d.blanks i h (λ j k. search (rules, not_filled)) }

  -- each filled cell of a placing is in its run
  of_run : (x : List Bool) (i : ℕ) → runs x ≡ clue → get_or x i false ≡ true → (start_of x ≤ i) × (i < start_of x + number)
  of_run x i is filled = let c = covered x clue i is filled in let e : c.index ≡ 0 = omega (arith, c.inside) in search (rules, e)

  -- if the run leaves a cell blank from some start, the cell is blankable
  leaves_from : (i s : ℕ) → ArePositive clue → i < length l → IsSingleRunStart l number s → (i < s) ⊎ (s + number ≤ i)
      → IsBlankable l clue i
  leaves_from i s pos within start out =
      let p = single_run_placing s pos start in grind (arith, common_steps, blankable_from, false_from_ne_true, of_run)

  -- ---- the support masks, computed from the mask of the starts

  module _ (starts : ℕ) (s : IsMaskOf (IsSingleRunStart l number) starts) where
    -- if the run has no start, the support is empty
    pub single_run_none : (v : Bool) (m : ℕ) → ArePositive clue → starts ≡ 0 → m ≡ 0 → IsMaskOf (IsInSupport l clue v) m
    single_run_none v m pos none e =
        none_in_support l clue v m pos e (λ x agree is. none_has starts _ none (s.from _ (single_run_start x agree is)))

    -- the fillable cells: `number` cells from each start on
    pub single_run_fillable : (w ends m : ℕ) → ArePositive clue → 0 < number → length l ≤ w
        → IsMaskOf (IsShifted w (Has starts) (number - 1)) ends
        → IsMaskOf (SomeFrom (Has ends) number) m → IsMaskOf (IsFillable l clue) m
    single_run_fillable w ends m pos some short p q = mask_same _ _ m q (λ i (z, below, has_end).
        let (within, enough, start) = p.to (i + z) has_end in
        let (x, agree, is, at) = single_run_placing (i + z - (number - 1)) pos (s.to _ start) in
        fillable_from l clue i (x, agree, is, in_run x clue 0 i is (omega arith) (omega (arith, at)) (omega (arith, at)))) (λ i h.
        let (x, agree, is, filled) = fillable_to l clue i pos h in
        let (low, high) = of_run x i is filled in
        let start = single_run_start x agree is in
        let last = (start.fit (number - 1) (omega arith)).0 in
        let has_start = s.from _ start in (start_of x + (number - 1) - i, omega arith, grind (arith, common_steps, p.from)))

    -- the blankable cells: all but those that the run fills from every one of its starts
    pub single_run_blankable : (w len line first last overlap m : ℕ) → ArePositive clue → len ≡ length l → length l ≤ w → Has starts first
        → ((i : ℕ) → Has starts i → first ≤ i) → Has starts last → ((i : ℕ) → Has starts i → i ≤ last)
        → IsMaskOf (λ i. (i < w) × (last ≤ i) × (i < first + number)) overlap → IsMaskOf (λ i. i < len) line
        → IsMaskOf (λ i. Has line i × (has overlap i ≡ false)) m → IsMaskOf (IsBlankable l clue) m
    single_run_blankable w len line first last overlap m pos e short at_first least at_last greatest c a p = mask_same _ _ m p (λ i h.
        let within = a.to i h.0 in
        elim (cases_lt i last) [
          | inl before ↦ leaves_from i last pos (omega arith) (s.to last at_last) (inl before)
          | inr from ↦ leaves_from i first pos (omega arith) (s.to first at_first) (inr (grind (arith, c.from i, has_true)))
        ]) (λ i h.
        let (x, agree, is, blank) = blankable_to l clue i h in
        let start = s.from _ (single_run_start x agree is) in
        (a.from i (omega arith), lacks overlap i (λ y. grind (arith, c.to i y, greatest _ start, least _ start, in_run x clue 0 i is))))

-- ---- the mask of the starts

module _ (l : List Cell) (number not_filled not_blank len line filled starts : ℕ) (e : len ≡ length l)
    (f : IsMaskOf (MayBe l false) not_filled)
    (r : IsMaskOf (MayBe l true) not_blank) (a : IsMaskOf (λ i. i < len) line)
    (p : IsMaskOf (λ i. Has line i × (has not_filled i ≡ false)) filled)
    (s : IsMaskOf (AllFrom (Has not_blank) number) starts) where
  -- a cell that is not known to be filled can be blank
  not_filled_unless : (k : ℕ) → (Has filled k → ⊥) → k < length l → MayBe l false k
  not_filled_unless k none within = search (rules, true_has, true_from_ne_false)

  -- if no cell is known to be filled, the run starts wherever enough cells can be filled
  pub starts_anywhere : filled ≡ 0 → IsMaskOf (IsSingleRunStart l number) starts
  starts_anywhere none = mask_same _ _ starts s (λ i h. record {
    fit = λ z b. r.to (i + z) (h z b);
    blanks = λ k b out. not_filled_unless k (λ h. none_has filled k none h) b;
  }) (λ i start z b. r.from (i + z) (start.fit z b))

  -- the run has the first and the last cell that are known to be filled
  pub starts_about : (w first last before some all after m : ℕ) → 0 < number → Has filled first → ((i : ℕ) → Has filled i → first ≤ i)
      → Has filled last → ((i : ℕ) → Has filled i → i ≤ last) → first < w → IsMaskOf (λ i. i < first + 1) before
      → IsMaskOf (λ i. Has starts i × Has before i) some → IsMaskOf (λ i. i < w) all
      → IsMaskOf (IsShifted w (Has all) (last + 1 - number)) after
      → IsMaskOf (λ i. Has some i × Has after i) m → IsMaskOf (IsSingleRunStart l number) m
  starts_about w first last before some all after m pos at_first least at_last greatest short b q c d t = mask_same _ _ m t (λ i h.
      let two = q.to i h.0 in
      let low : i < first + 1 = b.to i two.1 in
      let high : last + 1 - number ≤ i = (d.to i h.1).1 in
      record {
        fit = λ z b. r.to (i + z) (s.to i two.0 z b);
        blanks =
            λ k within out. not_filled_unless k
            (λ x. let l0 = least k x in let g0 = greatest k x in out (omega arith) (omega arith)) within;
      }) (λ i start.
      let x = must i first start at_first in
      let y = must i last start at_last in
      let has = s.from i (λ z b. r.from (i + z) (start.fit z b)) in
      let none = c.from (i - (last + 1 - number)) (omega arith) in
      (q.from i (has, b.from i (omega arith)), d.from i (omega arith, omega arith, none)))
    where
      -- a cell that is known to be filled is in the run
      must : (i k : ℕ) → IsSingleRunStart l number i → Has filled k → (i ≤ k) × (k < i + number)
      must i k start x = let y = p.to k x in let within : k < len = a.to k y.0 in search (rules, f.from k, start.blanks k)
