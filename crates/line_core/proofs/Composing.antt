-- The masks of gaps and of ends, each computed from those before it.
use Rattle.line_core.proofs.Names.{rules, add-one, sym, ◌↔◌, reversed_prefix, length-reverse, IsFeasibleGap, ◌≡◌, ℕ, ◌+◌, ◌-◌, ◌<◌, ◌≤◌, true, false, List, [], ◌∷◌, length, get_or, reverse, arith, ◌⊎◌, inl, inr, cases_lt, Cell, Has, IsMaskOf, IsShifted, IsFlooded, AllFrom, SomeFrom, SomeLevel, AreLevelsOf, mask_same, join_of, MayBe, IsGapAfter, IsStartAfter, IsEndAfter, IsPrefixGap, IsSuffixGap, IsFeasibleEnd, flood_same, IsEnd}
use Rattle.line_core.proofs.GapFloods.{After, first_gap_to, first_gap_from, gap_after_to, gap_after_from}
use Rattle.line_core.proofs.Joining.{closed_prefix_to, closed_prefix_from, closed_suffix_to, closed_suffix_from, reversed_gap, reversed_prefix_of_reverse}
use Rattle.line_core.specs.steps.Feasibility.{AreReversedSuffixes, AreSuffixes, IsNextStart, IsSuffixEnd}

-- the mask of the gaps before the first run
pub gap_none_is : (l : List Cell) (not_filled m : ℕ) → IsMaskOf (MayBe l false) not_filled
    → IsMaskOf (IsFlooded (λ k. Has not_filled k × (k ≡ 0)) (Has not_filled)) m → IsMaskOf (IsGapAfter l []) m
gap_none_is l not_filled m f p =
    mask_same _ _ m (flood_same (λ k. Has not_filled k × (k ≡ 0)) (Has not_filled) (λ k. (k ≡ 0) × MayBe l false k) (MayBe l false) m
    (λ i h. search (rules, f.to)) (λ i h. search (rules, f.from)) f.to f.from p) (first_gap_to l) (first_gap_from l)

-- the mask of the gaps after a run, computed from that of the run's ends
pub gap_next_is : (l : List Cell) (runs : List ℕ) (w n not_filled ends m : ℕ) → length l ≤ w → 0 < n → IsMaskOf (MayBe l false) not_filled
    → IsMaskOf (IsEndAfter l runs n) ends
    → IsMaskOf (IsFlooded (λ k. IsShifted w (Has ends) 1 k × Has not_filled k) (Has not_filled)) m → IsMaskOf (IsGapAfter l (n ∷ runs)) m
gap_next_is l runs w n not_filled ends m short pos f e p =
    mask_same _ _ m (flood_same (λ k. IsShifted w (Has ends) 1 k × Has not_filled k) (Has not_filled) (After l n runs) (MayBe l false) m
    (λ i h. search (rules, f.to, e.to)) (λ i h. search (rules, f.from, e.from)) f.to f.from p)
    (λ i h. gap_after_to l runs n i pos h) (gap_after_from l runs n)

-- before the first run, the next starts are the first cell and the cells right after a gap
pub starts_none_are : (l : List Cell) (w gap after first m : ℕ) → 1 ≤ length l → length l ≤ w → IsMaskOf (IsGapAfter l []) gap
    → IsMaskOf (IsShifted w (Has gap) 1) after → IsMaskOf (λ i. i ≡ 0) first → IsMaskOf (λ i. Has after i ⊎ Has first i) m
    → IsMaskOf (IsNextStart w l []) m
starts_none_are l w gap after first m some short g a f p = mask_same _ _ m p
    (λ s h. search (rules, closed_prefix_from, a.to, f.to, g.to)) (λ s (below, inside, closed).
    elim (closed_prefix_to l [] s inside closed)
    [ inl start ↦ inr (f.from s start.0) | inr gap ↦ inl (a.from s (below, gap.0, g.from (s - 1) gap.1)) ])

-- after a run, the next starts are the cells right after a gap
pub starts_next_are : (l : List Cell) (runs : List ℕ) (w n gap m : ℕ) → IsMaskOf (IsGapAfter l (n ∷ runs)) gap
    → IsMaskOf (IsShifted w (Has gap) 1) m → IsMaskOf (IsNextStart w l (n ∷ runs)) m
starts_next_are l runs w n gap m g p = mask_same _ _ m p
    (λ s h. search (rules, closed_prefix_from, g.to)) (λ s (below, inside, closed).
    elim (closed_prefix_to l (n ∷ runs) s inside closed)
    [ inl start ↦ absurd (omega (arith, start.1)) | inr gap ↦ (below, gap.0, g.from (s - 1) gap.1) ])

-- the mask of a run's ends: the run begins at a next start from which enough cells can be filled
pub ends_are : (l : List Cell) (runs : List ℕ) (w n starts not_blank fit_starts m : ℕ) → length l ≤ w → 0 < n
    → IsMaskOf (IsNextStart w l runs) starts → IsMaskOf (MayBe l true) not_blank → IsMaskOf (AllFrom (Has not_blank) n) fit_starts
    → IsMaskOf (IsShifted w (λ s. Has starts s × Has fit_starts s) (n - 1)) m → IsMaskOf (IsEndAfter l runs n) m
ends_are l runs w n starts not_blank fit_starts m short some f a v p = mask_same _ _ m p (λ e (below, far, (start, fit)).
    let at = e - (n - 1) in
    let same : at ≡ e + 1 - n = omega arith in
    let begun : IsStartAfter l runs n at = ((f.to at start).2, λ z b. a.to (at + z) (v.to at fit z b)) in (omega arith, rw same at begun))
    (λ e (enough, (closed, cells)).
    let at = e + 1 - n in
    let same : at ≡ e - (n - 1) = omega arith in
    let last = (cells (n - 1) (omega arith)).0 in
    let begun : Has starts at × Has fit_starts at =
    (f.from at (omega arith, omega arith, closed), v.from at (λ z b. a.from (at + z) (cells z b))) in
    (omega arith, omega arith, rw same at begun))

-- the mask of the feasible ends of a run: those that the cells on both sides allow
pub feasible_is : (l : List Cell) (clue : List ℕ) (j ends suffix m : ℕ) → 0 < get_or clue j 0 → IsMaskOf (IsEnd l clue j) ends
    → IsMaskOf (IsSuffixEnd l clue j) suffix → IsMaskOf (λ i. Has ends i × Has suffix i) m → IsMaskOf (IsFeasibleEnd l clue j) m
feasible_is l clue j ends suffix m some e a p = mask_same _ _ m p (λ i h. (e.to i h.0, (a.to i h.1).1)) (λ i (end, back).
    let far = (end.1.1 (get_or clue j 0 - 1) (omega arith)).0 in (e.from i end, a.from i (omega (arith, end.0), back)))

-- the mask of the feasible gaps after a run: the prefix gaps right after its suffix ends
pub feasible_gap_is : (l : List Cell) (clue : List ℕ) (w j gap suffix after m : ℕ) → j < length clue → length l ≤ w
    → IsMaskOf (IsPrefixGap l clue (j + 1)) gap → IsMaskOf (IsSuffixEnd l clue j) suffix → IsMaskOf (IsShifted w (Has suffix) 1) after
    → IsMaskOf (λ i. Has gap i × Has after i) m → IsMaskOf (IsFeasibleGap l clue (j + 1)) m
feasible_gap_is l clue w j gap suffix after m jl short g a s p = mask_same _ _ m p (λ i h.
    let front = g.to i h.0 in
    let (below, some, has) = s.to i h.1 in
    let same : i - 1 + 1 ≡ i = omega arith in
    let back = rw same at (a.to (i - 1) has).1 in (
      front,
      elim (closed_suffix_to l clue (j + 1) i (omega arith) (omega (arith, front.0.0)) back)
          [ inl past ↦ absurd (omega (arith, front.0.0, past.0)) | inr suffix ↦ suffix ],
    )) (λ i (front, back). elim (cases_lt 0 i) [
      | inl some ↦
          let same : i - 1 + 1 ≡ i = omega arith in (
            g.from i front,
            s.from i (
              omega (arith, front.0.0),
              some,
              a.from (i - 1) (
                omega (arith, front.0.0),
                rw same (closed_suffix_from l clue (j + 1) i (inr back)),
              ),
            ),
          )
      | inr none ↦ let first : i ≡ 0 = omega arith in search (rules, add-one, first)
    ])

-- the cells of run `j`, from its feasible ends, are added to the levels of the cells that can be filled
pub fill_more : (l : List Cell) (clue : List ℕ) (top j whole : ℕ) (old new : List ℕ) → IsMaskOf (IsFeasibleEnd l clue j) whole
    → AreLevelsOf (λ i. SomeLevel top old i ⊎ SomeFrom (Has whole) (get_or clue j 0) i) top new
    → AreLevelsOf (λ i. (q : ℕ) × (q < j) × SomeFrom (IsFeasibleEnd l clue q) (get_or clue q 0) i) top old
    → AreLevelsOf (λ i. (q : ℕ) × (q < j + 1) × SomeFrom (IsFeasibleEnd l clue q) (get_or clue q 0) i) top new
fill_more l clue top j whole old new w s f = record {
  to = λ i x. elim (s.to i x) [
    | inl y ↦ (let z = f.to i y in (z.0, omega (arith, z.1), z.2))
    | inr y ↦ (j, omega arith, (y.0, y.1, w.to (i + y.0) y.2))
  ];
  from = λ i (q, h, x). s.from i (elim (cases_lt q j) [
    | inl low ↦ inl (f.from i (q, low, x))
    | inr high ↦ (let e : q ≡ j = omega arith in let y = rw e at x in inr (y.0, y.1, w.from (i + y.0) y.2))
  ]);
}

-- the mask of the feasible gaps before the first run
pub blank_first : (l : List Cell) (clue : List ℕ) (gap suffix m : ℕ) → IsMaskOf (IsPrefixGap l clue 0) gap
    → IsMaskOf (IsSuffixGap l clue 0) suffix
    → IsMaskOf (λ i. Has gap i × Has suffix i) m → IsMaskOf (λ i. (q : ℕ) × (q ≤ 0) × IsPrefixGap l clue q i × IsSuffixGap l clue q i) m
blank_first l clue gap suffix m g a p = search rules

-- the feasible gaps after run `j` are added to the cells that can be blank
pub blank_more : (l : List Cell) (clue : List ℕ) (j blank part m : ℕ)
    → IsMaskOf (λ i. (q : ℕ) × (q ≤ j) × IsPrefixGap l clue q i × IsSuffixGap l clue q i) blank
    → IsMaskOf (IsFeasibleGap l clue (j + 1)) part → IsMaskOf (λ i. Has blank i ⊎ Has part i) m
    → IsMaskOf (λ i. (q : ℕ) × (q ≤ j + 1) × IsPrefixGap l clue q i × IsSuffixGap l clue q i) m
blank_more l clue j blank part m b a r =
    mask_same _ _ m (join_of _ _ blank part m b a r) (λ i h. search rules) (λ i (q, h, g, a). search (rules, cases_lt q (j + 1)))

-- the suffix sets are those of the mirrored line, mirrored
pub suffixes_of : (l : List Cell) (clue : List ℕ) (w len : ℕ) (old new : List ℕ) → length l ≡ len → len ≤ w
    → AreReversedSuffixes w l clue old
    → ((k : ℕ) → k ≤ length clue → IsMaskOf (λ i. (i < len) × Has (get_or old k 0) (len - 1 - i)) (get_or new k 0))
    → AreSuffixes l clue new
suffixes_of l clue w len old new e short reversed mirrored = record {
  ends = λ j h.
      let k = length clue - 1 - j in
      let starts = reversed.starts k (omega arith) in
      let runs = reversed_prefix 0 (reverse clue) k in
      let turned : (i : ℕ) → i < length l → IsNextStart w (reverse l) runs (len - 1 - i) ↔ IsSuffixEnd l clue j i =
      λ i il. search (rules, reversed_prefix_of_reverse, length-reverse) in
      mask_same _ _ _ (mirrored k (omega arith)) (λ i x. (turned i (omega (arith, x.0))).0 (starts.to _ x.1))
      (λ i x. (omega (arith, x.0), starts.from _ ((turned i x.0).1 x)));
  gap =
      let whole : length clue - 0 ≡ length clue = omega arith in
      let turned : (i : ℕ) → i < length l → IsPrefixGap (reverse l) (reverse clue) (length clue) (len - 1 - i) ↔ IsSuffixGap l clue 0 i =
      λ i il. rw (sym e) (rw whole at (reversed_gap l clue 0 i (omega arith) il)) in
      mask_same _ _ _ (mirrored (length clue) (omega arith)) (λ i x. (turned i (omega (arith, x.0))).0 (reversed.gap.to _ x.1))
      (λ i x. (omega (arith, x.0.0), reversed.gap.from _ ((turned i x.0.0).1 x)));
}
