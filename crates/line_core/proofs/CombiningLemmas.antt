-- The support of a line with one cell given a colour, combined from prefix supports, suffix supports and the run that
-- covers the cell.
use Rattle.line_core.proofs.Names.{AreMore, allows, rules, ap, sym, cases_eq, get_or-set_same, true≢false, not, mask_same, get_or-drop, IsShifted, nat_eq, ◌≡◌, ℕ, zero, suc, ◌+◌, ◌-◌, ◌*◌, ◌<◌, ◌≤◌, Bool, true, false, List, ◌∷◌, length, length_at, get_or, set, take, drop, reverse, refl, ◌∙◌, arith, add-one, ◌⊎◌, inl, inr, ◌↔◌, cases_lt, and_from, and_parts, length-set, ext_get_or, get_or-reverse, Has, IsWithBit, IsMaskOf, Cell, Unknown, agrees, runs, reversed_prefix, MayBe, IsSuffixGap, IsFeasibleEnd, ArePositive, get_or-set_other, get_or-set_at, get_or_default, length-reverse, reverse-reverse, drop-set-lt, colour, SupportMasks, LookaheadMasks, no_support, no_lookahead, masks_if, coloured, IsSupportOf, AreLengths, CanBeBefore, IsFeasibleGap, AreMasks, AreLookaheadsMore, AreEndSupports, CanBeAfter, CanBeBesideGap, CanBeBesideRun, CanBeUpTo, CanBeWithBlank, CanBeWithFilled, HasColour, IsEndOver}
use Rattle.line_core.specs.steps.Lookahead.{AreLookaheads}
use Rattle.line_core.proofs.SupportMasks.{Below, masks_are, masks_same, more_more, read_at, more_same, one_below}
use Rattle.line_core.proofs.ColouredGaps.{colour_is, coloured_less, coloured_other, reversed_prefix_coloured, gap_less, end_less, end_step_to, end_step_from, feasible_before_end}
use Rattle.line_core.proofs.DeducedCells.{CanBe}
use Rattle.line_core.proofs.GapRows.{mask_less, part_is, part_long}
use Rattle.line_core.proofs.Joining.{closed_suffix_to, closed_suffix_from, blankable_to, blankable_from, reversed_gap}
use Rattle.line_core.proofs.FeasibleEnds.{fillable_to, fillable_from, IsInSupport, in_support_mask}
use Rattle.line_core.proofs.GapFloods.{run_from_end}

-- ---- a line with one cell given a colour

-- the placings of a line with a cell given a colour are those of the line with that colour there
agrees_coloured : (l : List Cell) (k : ℕ) (d : Bool) (y : List Bool) → k < length l
    → (MayBe l d k × (agrees (coloured l k d) y ≡ true)) ↔ ((agrees l y ≡ true) × (get_or y k false ≡ d))
agrees_coloured (c ∷ l) zero d (b ∷ y) within = search (rules, and_parts, and_from, colour_is)
agrees_coloured (c ∷ l) (suc k) d (b ∷ y) within = search (rules, and_parts, and_from, agrees_coloured l k d y)
agrees_coloured l k d y within = search rules

-- cell `k` can have the colour `d` on the line with cell `x` given the colour `c`
abbrev GoesWith : List Cell → List ℕ → ℕ → Bool → Bool → ℕ → Type 0
GoesWith l clue x c d k = MayBe l d k × CanBe (coloured l k d) clue c x

-- two cells can be given their colours in either order
can_be_swap : (l : List Cell) (clue : List ℕ) (x k : ℕ) (c d : Bool) → MayBe l c x
    → ((k < length l) × CanBe (coloured l x c) clue d k) ↔ GoesWith l clue x c d k
can_be_swap l clue x k c d may = (
  λ (within, (y, agree, is, at)). search (rules, agrees_coloured l x c y, agrees_coloured l k d y),
  λ (free, (y, agree, is, at)). search (rules, agrees_coloured l x c y, agrees_coloured l k d y),
)

-- full cells that agree with the line with a colour from an index on agree with the line there
suffix_before : (l : List Cell) (k i : ℕ) (d : Bool) (y : List Bool) → MayBe l d k → agrees (drop i (coloured l k d)) y ≡ true
    → agrees (drop i l) y ≡ true
suffix_before l k zero d y may h = ((agrees_coloured l k d y may.0).0 (may, h)).0
suffix_before (c ∷ l) (suc k) (suc i) d y may h = suffix_before l k i d y (omega (arith, may.0), may.1) h
suffix_before l k (suc i) d y may h = search rules

-- ---- the mirrored line

reverse-set : (l : List Cell) (k : ℕ) (c : Cell) → k < length l → set (reverse l) (length l - 1 - k) c ≡ reverse (set l k c)
reverse-set l k c within = ext_get_or Unknown _ _ (search (rules, length-set, length-reverse))
    (λ z h. grind (arith, get_or-set_at, get_or-set_other, get_or-reverse, length-reverse, length-set))

-- the cells before a gap of the mirrored line are those after the gap
after_mirrored : (l : List Cell) (clue : List ℕ) (j i k : ℕ) (d : Bool) → j ≤ length clue → i < length l → k < length l
    → CanBeBefore (reverse l) (reversed_prefix 0 (reverse clue) (length clue - j)) (length l - 1 - i) d (length l - 1 - k)
    ↔ CanBeAfter l clue j i d k
after_mirrored l clue j i k d jl il kl =
    let suffix = rw (length-set l k (colour d)) at (reversed_gap (coloured l k d) clue j i jl (omega (arith, length-set l k (colour d)))) in
    rw (reverse-set l k (colour d) kl) (search (rules, get_or-reverse, length-reverse, suffix))

-- a feasible gap of the line is one of the mirrored line
pub feasible_mirrored : (l : List Cell) (clue : List ℕ) (j i : ℕ) → j ≤ length clue → i < length l → IsFeasibleGap l clue j i
    → IsFeasibleGap (reverse l) (reverse clue) (length clue - j) (length l - 1 - i)
feasible_mirrored l clue j i jl il whole =
    let back = reversed_gap (reverse l) (reverse clue) (length clue - j) (length l - 1 - i) in
    search (rules, reversed_gap l clue j i jl il, back, length-reverse, reverse-reverse)

-- ---- what goes with one cell of a colour

-- an unknown cell can have each colour
unknown_may : (l : List Cell) (x : ℕ) (c : Bool) → x < length l → get_or l x Unknown ≡ Unknown → MayBe l c x
unknown_may l x c within unknown = search rules

-- masks of the cells that go with the colour `c` at `x` are the support of the line with that colour there
support_after : (l : List Cell) (clue : List ℕ) (x : ℕ) (c : Bool) (m : SupportMasks) → ArePositive clue → MayBe l c x
    → AreMasks (GoesWith l clue x c) m → IsSupportOf (coloured l x c) clue m
support_after l clue x c m pos may a = record { fillable_is = mask true _ a.fillable_is; blankable_is = mask false _ a.blankable_is }
  where
    mask : (d : Bool) (n : ℕ) → IsMaskOf (GoesWith l clue x c d) n → IsMaskOf (IsInSupport (coloured l x c) clue d) n
    mask d n p = in_support_mask (coloured l x c) clue d _ n pos p (λ k.
        rw (length-set l x (colour c)) (let swap = can_be_swap l clue x k c d may in (swap.1, swap.0)))

run_to : (l : List Cell) (clue : List ℕ) (x k : ℕ) (d : Bool) → GoesWith l clue x true d k
    → (j : ℕ) × (j < length clue) × (e : ℕ) × IsEndOver l clue j x e × CanBeBesideRun l clue j e d k
run_to l clue x k d (may, can) =
    let (j, jl, (z, zb, (end, back))) = fillable_from (coloured l k d) clue x can in
    let size = length-set l k (colour d) in
    let beside : CanBeBesideRun l clue j (x + z) d k = elim (cases_lt (x + z) k) [
      | inr inside ↦ inl (end_step_to l (reversed_prefix 0 clue j) (get_or clue j 0) (x + z) k d (omega arith) may inside end)
      | inl past ↦ search (rules, closed_suffix_to (coloured l k d) clue (j + 1) (x + z + 1) (omega arith) (omega (arith, end.0)) back)
    ] in
    (j, jl, x + z, (omega arith, omega arith, search (rules, end_less, suffix_before)), beside)

run_from : (l : List Cell) (clue : List ℕ) (x k j e : ℕ) (d : Bool) → ArePositive clue → j < length clue → IsEndOver l clue j x e
    → CanBeBesideRun l clue j e d k → GoesWith l clue x true d k
run_from l clue x k j e d pos jl (from, to, whole) beside =
    let same : x + (e - x) ≡ e = omega arith in
    let (may, end) = kept whole beside in (may, fillable_to (coloured l k d) clue x pos (j, jl, (e - x, omega arith, rw same end)))
  where
    kept : IsFeasibleEnd l clue j e → CanBeBesideRun l clue j e d k → MayBe l d k × IsFeasibleEnd (coloured l k d) clue j e
    kept (end, back) (inl near) = search (rules, end_step_from l (reversed_prefix 0 clue j) (get_or clue j 0) e k d end near, drop-set-lt)
    kept ((enough, (front, cells)), back) (inr (next, (le, may, gap))) =
        search (rules, reversed_prefix_coloured, coloured_other, closed_suffix_from)

-- with a blank cell go the cells that go with it as a feasible gap, after some number of runs
pub combined_blank : (l : List Cell) (clue : List ℕ) (x : ℕ) (m : SupportMasks) → ArePositive clue → MayBe l false x
    → AreMasks (Below (length clue + 1) (CanBeWithBlank l clue x)) m → IsSupportOf (coloured l x false) clue m
combined_blank l clue x m pos may_x a = support_after l clue x false m pos may_x (masks_same _ _ m a (λ d k. (
  λ (j, jl, ((gap, suffix), side)).
      let le : j ≤ length clue = omega arith in search (rules, blankable_to (coloured l k d) clue x, drop-set-lt, reversed_prefix_coloured),
  λ (may, can).
      let (j, jl, gap, suffix) = blankable_from (coloured l k d) clue x (omega (arith, length-set l k (colour d), may_x.0)) can in
      let whole : IsFeasibleGap l clue j x = search (rules, gap_less, coloured_less, suffix_before) in
      elim (cases_lt x k) [
        | inl after ↦ (j, omega arith, (whole, inr (omega arith, may, suffix)))
        | inr before ↦ (j, omega arith, (whole, inl (before, may, gap)))
      ],
)))

-- with a filled cell go the cells that go with some run over it
pub combined_filled : (l : List Cell) (clue : List ℕ) (x : ℕ) (m : SupportMasks) → ArePositive clue → MayBe l true x
    → AreMasks (Below (length clue) (CanBeWithFilled l clue x)) m → IsSupportOf (coloured l x true) clue m
combined_filled l clue x m pos may_x a = support_after l clue x true m pos may_x (masks_same _ _ m a (λ d k. (
  λ (j, jl, (e, over, beside)). run_from l clue x k j e d pos jl over beside,
  λ goes. let (j, jl, e, over, beside) = run_to l clue x k d goes in (j, jl, (e, over, beside)),
)))

-- ---- what the tables hold

-- after a feasible end of a run that is not the last cell of the line there is a feasible gap
pub gap_after_end : (l : List Cell) (clue : List ℕ) (j e : ℕ) → 0 < get_or clue j 0 → j < length clue → e + 1 < length l
    → IsFeasibleEnd l clue j e
    → IsFeasibleGap l clue (j + 1) (e + 1)
gap_after_end l clue j e some jl within (end, back) =
    let after = closed_suffix_to l clue (j + 1) (e + 1) (omega arith) (omega arith) back in
    search (rules, after, add-one, run_from_end l _ (get_or clue j 0) e some end)

-- a feasible end is on the line
pub end_inside : (l : List Cell) (clue : List ℕ) (j e : ℕ) → 0 < get_or clue j 0 → IsFeasibleEnd l clue j e → e < length l
end_inside l clue j e some whole = omega (arith, (whole.0.1.1 (get_or clue j 0 - 1) (omega arith)).0, whole.0.0)

pub ruleset ends = (end_inside, length_at, part_long)

module _ (l : List Cell) (clue : List ℕ) (before after : List SupportMasks) (w len : ℕ)
    (supports : AreEndSupports w l clue len before after) where
  -- the prefix support at a feasible gap, in the table
  near_at : (j i : ℕ) → j ≤ length clue → IsFeasibleGap l clue j i → (d : Bool) (k : ℕ)
      → HasColour (get_or before (128 * j + i) no_support) d k ↔ CanBeBefore l (reversed_prefix 0 clue j) i d k
  near_at j i jl whole d k =
      let are = masks_are _ _ (supports.before_is j i jl whole) d k in (λ h. (are.0 h).1, λ h. are.1 (h.1.0, h))

  -- the prefix support at a feasible gap, as it is read
  pub near_are : (j i p : ℕ) (read : SupportMasks) → j ≤ length clue → IsFeasibleGap l clue j i → p ≡ i
      → read ≡ get_or before (128 * j + p) read
      → (d : Bool) (k : ℕ) → HasColour read d k ↔ CanBeBefore l (reversed_prefix 0 clue j) i d k
  near_are j i p read jl whole at is d k =
      let same = read_at before (128 * j + p) (128 * j + i) read (ap (λ (n : ℕ). 128 * j + n) at) (omega (arith, whole.0.0.0)) is in
      rw (sym same) at (near_at j i jl whole d k)

  -- the suffix support at a feasible gap, as it is read
  pub far_are : (j i p : ℕ) (read : SupportMasks) → j ≤ length clue → IsFeasibleGap l clue j i → p ≡ len - 1 - i
      → read ≡ get_or after (128 * (length clue - j) + p) read → (d : Bool) (k : ℕ) → HasColour read d k ↔ CanBeAfter l clue j i d k
  far_are j i p read jl whole at is d k =
      let inside = whole.0.0.0 in
      let q = length clue - j in
      let same = read_at after (128 * q + p) (128 * q + (length l - 1 - i)) read (omega arith) (omega arith) is in
      let size : length (reverse l) - 1 - k ≡ length l - 1 - k = ap (λ (n : ℕ). n - 1 - k) (length-reverse l) in
      let are = rw (sym same, size) at (masks_are _ _
      (supports.after_is q (length l - 1 - i) (omega (arith, length-reverse clue)) (feasible_mirrored l clue j i jl inside whole)) d k) in (
        λ h. let x = are.0 h in (after_mirrored l clue j i k d jl inside (omega (arith, x.0, length-reverse l))).0 x.1,
        λ h. are.1 (omega (arith, h.1.0, length-reverse l), (after_mirrored l clue j i k d jl inside h.1.0).1 h),
      )

  module _ (j e : ℕ) (are : AreLengths w clue) (jl : j < length clue) (whole : IsFeasibleEnd l clue j e) where
    -- the support of the cells up to the last cell of a run, given that run
    pub up_to_is : (one up : ℕ) (m : SupportMasks) → IsMaskOf (λ i. i < get_or clue j 0) one
        → IsMaskOf (IsShifted w (Has one) (e + 1 - get_or clue j 0)) up → (let n = get_or clue j 0 in
        let table = take (length before - 128 * j) (drop (128 * j) before) in
        AreMasks (λ d k. ((d ≡ true) × Has up k) ⊎ ((0 < e + 1 - n) × HasColour (get_or table (e + 1 - n - 1) no_support) d k)) m
        → AreMasks (λ d k. CanBeUpTo l (reversed_prefix 0 clue j) n d e k) m)
    up_to_is one up m o u p =
        let n = get_or clue j 0 in
        let table = take (length before - 128 * j) (drop (128 * j) before) in
        let some = (length_at w clue j are jl).0 in
        let at : e + 1 - n - 1 ≡ e - n = omega arith in
        let prefix_at = get_or table (e + 1 - n - 1) no_support in
        let read : n ≤ e → (d : Bool) (k : ℕ) → HasColour prefix_at d k ↔ CanBeBefore l (reversed_prefix 0 clue j) (e - n) d k =
        λ far. rw (part_is (128 * j) before, get_or-drop (128 * j) before (e + 1 - n - 1) no_support, at)
        (near_at j (e - n) (omega arith) (feasible_before_end l clue j e jl some far whole)) in
        masks_same _ _ m p (λ d k. (
          λ h. elim h [
            | inl (fill, x) ↦ (let y = u.to k x in inl (fill, y.1, omega (arith, o.to (k - (e + 1 - n)) y.2, whole.0.0)))
            | inr (some, x) ↦ (let far : n ≤ e = omega arith in inr (far, (read far d k).0 x))
          ],
          λ h. elim h [
            | inl (fill, low, high) ↦
                inl (fill, u.from k (omega (arith, end_inside l clue j e some whole), low, o.from (k - (e + 1 - n)) (omega arith)))
            | inr (far, x) ↦ inr (omega arith, (read far d k).1 x)
          ],
        ))

    -- the support of the line, given that run: the cells up to its end, and those after the gap after it
    pub beside_is : (p : ℕ) (read old new : SupportMasks) → e + 1 < len → p ≡ len - 1 - (e + 1)
        → read ≡ get_or after (128 * (length clue - (j + 1)) + p) read
        → AreMasks (λ d k. CanBeUpTo l (reversed_prefix 0 clue j) (get_or clue j 0) d e k) old
        → AreMore (HasColour read) old new → AreMasks (CanBeBesideRun l clue j e) new
    beside_is p read old new next at is a more =
        let gap = gap_after_end l clue j e (length_at w clue j are jl).0 jl (omega arith) whole in
        let far = far_are (j + 1) (e + 1) p read (omega arith) gap at is in
        masks_same _ _ new more (λ d k. search (rules, masks_are _ old a d k, far d k))

-- ---- lookaheads to which cells are added

pub lookaheads_same : (filled : Bool) (P Q : ℕ → Bool → ℕ → Type 0) (old new : List LookaheadMasks) → AreLookaheadsMore filled P old new
    → ((x : ℕ) (d : Bool) (k : ℕ) → P x d k ↔ Q x d k) → AreLookaheadsMore filled Q old new
lookaheads_same filled P Q old new a same =
    record { more = λ x h. more_same _ _ _ _ (a.more x h) (same x); other = a.other; count = a.count }

-- the next lookahead gets the cells of `C` too
pub lookaheads_one : (filled : Bool) (from p q : ℕ) (C : Bool → ℕ → Type 0) (old sum : List LookaheadMasks)
    (default new : LookaheadMasks) → q ≡ p
    → p < length sum
    → from ≤ p → AreLookaheadsMore filled (λ x d k. (from ≤ x) × (x < p) × C d k) old sum
    → AreMore C (masks_if filled (get_or sum q default)) (masks_if filled new)
    → masks_if (not filled) new ≡ masks_if (not filled) (get_or sum q default)
    → AreLookaheadsMore filled (λ x d k. (from ≤ x) × (x < p + 1) × C d k) old (set sum q new)
lookaheads_one filled from p q C old sum default new at inside le a more other = record {
  more = λ x h. elim (cases_eq x p) [
    | inl e ↦ rw (at, e, get_or-set_same sum p new no_lookahead inside) (more_same _ _ _ _
        (more_more _ _ _ _ _ (rw e at (a.more x h)) (rw here at more)) (λ d k. search rules))
    | inr ne ↦ rw (at, get_or-set_other sum p x new no_lookahead ne) (more_same _ _ _ _ (a.more x h) (λ d k. search rules))
  ];
  other = λ x. elim (cases_eq x p) [
    | inl e ↦
        rw (at, e, get_or-set_same sum p new no_lookahead inside)
        (other ∙ ap (λ (m : LookaheadMasks). masks_if (not filled) m) here ∙ rw e at (a.other x))
    | inr ne ↦ rw (at, get_or-set_other sum p x new no_lookahead ne) (a.other x)
  ];
  count = rw at (length-set sum p new) ∙ a.count;
}
  where
    here : get_or sum q default ≡ get_or sum p no_lookahead
    here = rw at (get_or_default sum p default no_lookahead inside)

-- the cells of `P` were added to lookaheads for each index of `places` that is not in `left`
pub record AreLookaheadsAdded (filled : Bool) (places left : ℕ) (P : ℕ → ℕ → Bool → ℕ → Type 0) (old new : List LookaheadMasks)
    : Type 0 where
  pub within : (i : ℕ) → Has left i → Has places i
  pub more : AreLookaheadsMore filled (λ x d k. (i : ℕ) × Has places i × (Has left i → ⊥) × P x i d k) old new

pub lookaheads_more : (filled : Bool) (places left next p : ℕ) (P : ℕ → ℕ → Bool → ℕ → Type 0) (old sum new : List LookaheadMasks)
    → AreLookaheadsAdded filled places left P old sum → Has left p → IsMaskOf (IsWithBit (Has left) p false) next
    → AreLookaheadsMore filled (λ x. P x p) sum new → AreLookaheadsAdded filled places next P old new
lookaheads_more filled places left next p P old sum new a here marked b = record {
  within = λ i h. elim (marked.to i h) [ inl x ↦ a.within i x.0 | inr x ↦ a.within i (rw x.0 here) ];
  more = record {
    more = λ x h. masks_same _ _ _ (more_more _ _ _ _ _ (a.more.more x h) (b.more x (omega (arith, h, a.more.count))))
        (λ d k. search (rules, same));
    other = λ x. b.other x ∙ a.more.other x;
    count = b.count ∙ a.more.count;
  };
}
  where
    same : (x : ℕ) (d : Bool) (k : ℕ)
        → ((i : ℕ) × Has places i × (Has left i → ⊥) × P x i d k) ⊎ P x p d k ↔ ((i : ℕ) × Has places i × (Has next i → ⊥) × P x i d k)
    same x d k = (
      λ h. search (rules, a.within, marked.to, true≢false),
      λ (i, there, lacks, y). search (rules, cases_eq i p, marked.from i, lacks),
    )

-- an index of a feasible gap, or of a feasible end, that is still to be handled is on the line
pub gap_inside : (l : List Cell) (clue : List ℕ) (j gaps left i : ℕ) (filled : Bool) (P : ℕ → ℕ → Bool → ℕ
    → Type 0) (old new : List LookaheadMasks)
    → AreLookaheadsAdded filled gaps left P old new → Has left i → IsMaskOf (IsFeasibleGap l clue j) gaps
    → IsFeasibleGap l clue j i × (i < length l)
gap_inside l clue j gaps left i filled P old new a h m = let gap = m.to i (a.within i h) in (gap, gap.0.0.0)

pub end_left : (l : List Cell) (clue : List ℕ) (w j ends left e : ℕ) (filled : Bool) (P : ℕ → ℕ → Bool → ℕ
    → Type 0) (old new : List LookaheadMasks)
    → AreLookaheadsAdded filled ends left P old new → Has left e → IsMaskOf (IsFeasibleEnd l clue j) ends → AreLengths w clue
    → j < length clue
    → IsFeasibleEnd l clue j e × (e < length l)
end_left l clue w j ends left e filled P old new a h m are jl =
    let end = m.to e (a.within e h) in (end, end_inside l clue j e (length_at w clue j are jl).0 end)

pub ruleset places = (gap_inside, mask_less)

-- ---- the lookaheads of a line

-- lookaheads so far: with a cell blank after fewer than `gaps` runs, and with it filled by one of the first `runs` runs
pub record AreCombined (l : List Cell) (clue : List ℕ) (gaps runs : ℕ) (lookaheads : List LookaheadMasks) : Type 0 where
  pub fits : length l ≤ length lookaheads
  pub blank : (x : ℕ) → x < length l → AreMasks (Below gaps (CanBeWithBlank l clue x)) (get_or lookaheads x no_lookahead).if_blank
  pub filled : (x : ℕ) → x < length l → AreMasks (Below runs (CanBeWithFilled l clue x)) (get_or lookaheads x no_lookahead).if_filled

pub combined_gaps : (l : List Cell) (clue : List ℕ) (j runs : ℕ) (old new : List LookaheadMasks) → AreCombined l clue j runs old
    → AreLookaheadsMore false (λ x. CanBeWithBlank l clue x j) old new → AreCombined l clue (j + 1) runs new
combined_gaps l clue j runs old new a more = record {
  fits = omega (arith, a.fits, more.count);
  blank = λ x h. one_below _ j _ _ (a.blank x h) (more.more x (omega (arith, h, a.fits)));
  filled = λ x h. rw (more.other x) (a.filled x h);
}

pub combined_run : (l : List Cell) (clue : List ℕ) (gaps j : ℕ) (old new : List LookaheadMasks) → AreCombined l clue gaps j old
    → AreLookaheadsMore true (λ x. CanBeWithFilled l clue x j) old new → AreCombined l clue gaps (j + 1) new
combined_run l clue gaps j old new a more = record {
  fits = omega (arith, a.fits, more.count);
  blank = λ x h. rw (more.other x) (a.blank x h);
  filled = λ x h. one_below _ j _ _ (a.filled x h) (more.more x (omega (arith, h, a.fits)));
}

pub combined_all : (l : List Cell) (clue : List ℕ) (lookaheads : List LookaheadMasks) → ArePositive clue
    → AreCombined l clue (length clue + 1) (length clue) lookaheads → AreLookaheads l clue lookaheads
combined_all l clue lookaheads pos a x true h unknown = combined_filled l clue x _ pos (unknown_may l x true h unknown) (a.filled x h)
combined_all l clue lookaheads pos a x false h unknown = combined_blank l clue x _ pos (unknown_may l x false h unknown) (a.blank x h)
