-- The rows of a table of prefix supports, written gap by gap.
use Rattle.line_core.proofs.Names.{Bool, CanBeMirrored, ◌↔◌, ◌⊎◌, ◌∷◌, rules, eqb-true, none_has, true, ◌≡◌, ◌≢◌, ◌∙◌, ℕ, zero, suc, ◌+◌, ◌-◌, ◌<◌, ◌≤◌, List, length, false, sym, subst, arith, zero-add, inl, inr, get_or, set, take, map, Cell, Has, IsMaskOf, IsShifted, IsGapAfter, IsFeasibleEnd, reversed_prefix, nat_eq, ◌*◌, ◌/◌, get_or-set_other, get_or-set_same, true≢false, drop, [], length-drop, take_all, cases_eq, cases_lt, bit_at, IsWithBit, bits_at, length_at, add-one, AreLengths, SupportMasks, no_support, IsPrefixSupport, IsFeasibleGap, IsMirroredIn, HasColour, AreMasks, AreMore, mirror_index, IsRow, AreRowsTo, bit_at-suc, bit_at_lowest, bit_at-lt, same_from_bits}
use Rattle.line_core.proofs.ColouredGaps.{before_from, before_to, gap_less, feasible_back, feasible_end_back, feasible_before_end, Step}
use Rattle.line_core.proofs.SupportMasks.{masks_are, masks_same}

-- a number is less than another if they differ in one bit, which only the other has
bit_less : (p a b : ℕ) → bit_at a p ≡ 1 → bit_at b p ≡ 0 → ((i : ℕ) → i ≢ p → bit_at b i ≡ bit_at a i) → b < a
bit_less zero a b h none same =
    let half : b / 2 ≡ a / 2 = same_from_bits (b / 2) (a / 2) (λ i. sym (bit_at-suc b i) ∙ same (suc i) (omega arith) ∙ bit_at-suc a i) in
    omega (arith, sym (bit_at_lowest a) ∙ h, sym (bit_at_lowest b) ∙ none)
bit_less (suc p) a b h none same =
    let less = bit_less p (a / 2) (b / 2) (sym (bit_at-suc a p) ∙ h) (sym (bit_at-suc b p) ∙ none)
    (λ i ne. sym (bit_at-suc b i) ∙ same (suc i) (omega (arith, ne)) ∙ bit_at-suc a i) in omega arith

-- a mask with one index removed is less
pub mask_less : (a b p : ℕ) → Has a p → IsMaskOf (IsWithBit (Has a) p false) b → b < a
mask_less a b p h m = bit_less p a b h (grind (arith, bit_at-lt, true≢false)) (λ i ne. grind (arith, bit_at-lt, true≢false))

-- a loop over the indices of `all` has written those that are not in `left`: the element of `row` at each satisfies `Q`
pub record IsWalk {A : Type 0} (all left : ℕ) (Q : ℕ → A → Type 0) (none : A) (row : List A) : Type 0 where
  pub within : (i : ℕ) → Has left i → Has all i
  pub done : (i : ℕ) → Has all i → (Has left i → ⊥) → Q i (get_or row i none)

-- before the loop nothing is written
pub walk_none : {A : Type 0} (all : ℕ) (Q : ℕ → A → Type 0) (none : A) (row : List A) → IsWalk all all Q none row
walk_none all Q none row = record { within = λ i h. h; done = λ i h lacks. absurd (lacks h) }

-- a step of the loop writes one element and removes its index from `left`
pub walk_more : {A : Type 0} (all left next p q : ℕ) (Q : ℕ → A → Type 0) (none : A) (row : List A) (v : A) → p < length row → q ≡ p
    → IsMaskOf (IsWithBit (Has left) p false) next → Q p v → IsWalk all left Q none row → IsWalk all next Q none (set row q v)
walk_more all left next p q Q none row v inside at m here w = record {
  within = λ i h. elim (m.to i h) [ inl x ↦ w.within i x.0 | inr x ↦ absurd (true≢false (sym x.1)) ];
  done = λ i h lacks. search (rules, cases_eq i p, get_or-set_same row p v none inside, get_or-set_other, w.done i h, m.from i);
}

-- after the loop all elements are written
pub walk_last : {A : Type 0} (all left : ℕ) (Q : ℕ → A → Type 0) (none : A) (row : List A) → nat_eq left 0 ≡ true
    → IsWalk all left Q none row
    → (i : ℕ) → Has all i → Q i (get_or row i none)
walk_last all left Q none row e w i h = w.done i h (none_has left i (eqb-true left 0 e))

-- an index of a feasible gap that is still to be written is inside a row
pub left_inside : (l : List Cell) (clue : List ℕ) (j gaps left p : ℕ) (Q : ℕ → SupportMasks → Type 0) (row : List SupportMasks)
    → IsWalk gaps left Q no_support row → Has left p → IsMaskOf (IsFeasibleGap l clue j) gaps → length l ≤ 128 → p < 128
left_inside l clue j gaps left p Q row walk h m short = omega (arith, (m.to p (walk.within p h)).0.0.0)

pub first_inside : (l : List Cell) (gaps left p : ℕ) (Q : ℕ → SupportMasks → Type 0) (row : List SupportMasks)
    → IsWalk gaps left Q no_support row → Has left p → ((i : ℕ) → Has gaps i → IsGapAfter l [] i) → p < length l
first_inside l gaps left p Q row walk h gap = (gap p (walk.within p h)).0.0

pub ruleset walks = (left_inside, first_inside, mask_less, walk_none)

-- the indices in `left` come after all others, and `last` satisfies `Q` at the one right before the first of them
abbrev pub IsLast : {A : Type 0} → ℕ → ℕ → (ℕ → A → Type 0) → A → Type 0
IsLast all left Q last = (i k : ℕ) → Has all i → (Has left i → ⊥) → Has left k → (i < k) × (k ≡ i + 1 → Q i last)

pub last_more : {A : Type 0} (all left next p : ℕ) (Q : ℕ → A → Type 0) (last v : A) → Has left p → ((i : ℕ) → Has left i → p ≤ i)
    → IsMaskOf (IsWithBit (Has left) p false) next → Q p v → IsLast all left Q last → IsLast all next Q v
last_more all left next p Q last v first least m here old i k h lacks there =
    let after : Has left k × (k ≢ p) = elim (m.to k there) [ inl x ↦ x | inr x ↦ absurd (true≢false (sym x.1)) ] in
    let far = least k after.0 in
    elim (cases_eq i p) [
      | inl e ↦ (omega (arith, after.1), λ next. rw e here)
      | inr ne ↦
          (let x = (old i p h (λ x. lacks (m.from i (inl (x, ne)))) first).0 in (omega arith, λ next. absurd (omega (arith, after.1))))
    ]

-- the prefix support at a gap after run `j`, from that at the gap one cell before and from the row before
pub next_prefix_support : (t : Bool) (l : List Cell) (clue : List ℕ) (j w gaps left ends longer ended p : ℕ)
    (before table : List SupportMasks)
    (last old m : SupportMasks) → AreLengths w clue → j < length clue → length l ≤ 128 → IsMaskOf (IsFeasibleGap l clue (j + 1)) gaps
    → IsMaskOf (IsFeasibleEnd l clue j) ends → IsMaskOf (IsShifted w (Has gaps) 1) longer
    → IsMaskOf (IsShifted w (Has ends) 1) ended → p < w
    → Has gaps p → Has left p → ((i : ℕ) → Has left i → p ≤ i)
    → ((k : ℕ) → k < 128 → get_or before k no_support ≡ get_or table (128 * j + k) no_support) → IsRow t l clue j (128 * j) table
    → IsLast gaps left (IsPrefixSupport t l (reversed_prefix 0 clue (j + 1))) last
    → AreMasks (λ v k. ((v ≡ false) × IsMirroredIn t (length l) p (p + 1) k) ⊎ (Has longer p × HasColour last v k)) old
    → (let n = get_or clue j 0 in AreMore (λ v k. Has ended p × (((v ≡ true) × IsMirroredIn t (length l) (p - n) p k)
    ⊎ ((n < p) × HasColour (get_or before (p - n - 1) no_support) v k))) old m)
    → IsPrefixSupport t l (reversed_prefix 0 clue (j + 1)) p m
next_prefix_support t l clue j w gaps left ends longer ended p before table last old m are jl short ps es lm em pw is here low front given
    suffix a b =
    rw (add-one j) (masks_same _ _ m b (λ v k. (
      λ h. let y = to v k h in (y.0, before_from l runs n p v (mirror_index t (length l) k) some whole.0 y.1),
      λ h. from v k h.0 (before_to l runs n p v (mirror_index t (length l) k) some h.1),
    )))
  where
    n : ℕ
    n = get_or clue j 0

    runs : List ℕ
    runs = reversed_prefix 0 clue j

    some : 0 < n
    some = (length_at w clue j are jl).0

    gs : IsMaskOf (IsFeasibleGap l clue (suc j)) gaps
    gs = rw (add-one j) at ps

    whole : IsFeasibleGap l clue (suc j) p
    whole = gs.to p is

    at_last : Has longer p → (v : Bool) (k : ℕ) → HasColour last v k ↔ CanBeMirrored t l (n ∷ runs) (p - 1) v k
    at_last h = let x = lm.to p h in
        rw (add-one j) at (masks_are _ last ((suffix (p - 1) p x.2 (λ n. omega (arith, x.1, low (p - 1) n)) here).1 (omega (arith, x.1))))

    in_before : Has ended p → n < p → (v : Bool) (k : ℕ)
        → HasColour (get_or before (p - n - 1) no_support) v k ↔ CanBeMirrored t l runs (p - 1 - n) v k
    in_before h far =
        let gap = feasible_before_end l clue j (p - 1) jl some (omega arith) (es.to (p - 1) (em.to p h).2) in
        let e : p - 1 - n ≡ p - n - 1 = omega arith in
        let inside : p - 1 - n < 128 = omega (arith, gap.0.0.0) in
        masks_are _ _ (rw (sym e, front (p - 1 - n) inside) (given (p - 1 - n) gap))

    to : (v : Bool) (k : ℕ) → HasColour old v k ⊎ (Has ended p × (((v ≡ true) × IsMirroredIn t (length l) (p - n) p k)
        ⊎ ((n < p) × HasColour (get_or before (p - n - 1) no_support) v k)))
        → (k < length l) × Step l runs n p v (mirror_index t (length l) k)
    to v k (inl x) = elim ((masks_are _ old a v k).0 x) [
      | inl (blank, own) ↦ (own.0, inl (omega (arith, own.1), blank))
      | inr (h, y) ↦ (let z = (at_last h v k).0 y in (z.0, inr ((lm.to p h).1, inl z.1)))
    ]
    to v k (inr (h, inl (fill, x))) = let far = (em.to p h).1 in let end = (es.to (p - 1) (em.to p h).2).0 in search rules
    to v k (inr (h, inr (far, x))) = let y = (in_before h far v k).0 x in
        (y.0, inr ((em.to p h).1, inr ((es.to (p - 1) (em.to p h).2).0, inr (omega arith, y.1))))

    from : (v : Bool) (k : ℕ) → k < length l → Step l runs n p v (mirror_index t (length l) k)
        → HasColour old v k ⊎ (Has ended p × (((v ≡ true) × IsMirroredIn t (length l) (p - n) p k)
        ⊎ ((n < p) × HasColour (get_or before (p - n - 1) no_support) v k)))
    from v k kl (inl (at, blank)) = search (rules, masks_are _ old a v k)
    from v k kl (inr (one, inl y)) =
        let g = gs.from (p - 1) (feasible_back l clue (suc j) p jl one whole.1 (gap_less l _ v y.1 (n ∷ runs) (p - 1) y.2)) in
        let x = lm.from p (pw, one, g) in
        search (rules, masks_are _ old a v k, at_last)
    from v k kl (inr (one, inr (e, y))) = inr (
      ends_here,
      elim y [
        | inl (fill, low, high) ↦ inl (fill, (kl, omega arith, omega arith))
        | inr (far, z) ↦ (let less : n < p = omega arith in inr (less, (in_before ends_here less v k).1 (kl, z)))
      ],
    )
      where
        ends_here : Has ended p
        ends_here = em.from p (pw, one, es.from (p - 1) (feasible_end_back l clue j p one whole.1 e))

-- a stored mask that is read from a list is the mask at that index
pub stored_is : {A : Type 0} (bits : A → ℕ) (P : ℕ → Type 0) (xs : List A) (i : ℕ) (d : A) (m : ℕ) → i < length xs
    → m ≡ bits (get_or xs i d) → IsMaskOf P (get_or (map bits xs) i 0) → IsMaskOf P m
stored_is bits P xs i d m inside e p = subst (IsMaskOf P) (sym (e ∙ bits_at bits xs i d inside)) p

pub rows_none : (t : Bool) (l : List Cell) (clue : List ℕ) (table : List SupportMasks)
    → ((i : ℕ) → IsFeasibleGap l clue 0 i → IsPrefixSupport t l [] i (get_or table i no_support)) → AreRowsTo t l clue 0 table
rows_none t l clue table given q h i whole = let e : q ≡ 0 = omega arith in rw (e, zero-add) (given i (rw e at whole))

-- the part of a list from an index on is what is left of it, and follows the first part when it is put back
pub part_is : (a : ℕ) (xs : List SupportMasks) → take (length xs - a) (drop a xs) ≡ drop a xs
part_is a xs = take_all (length xs - a) (drop a xs) (omega (arith, length-drop a xs))

pub part_long : (a : ℕ) (xs : List SupportMasks) → length (take (length xs - a) (drop a xs)) ≡ length xs - a
part_long a xs = rw part_is (length-drop a xs)

-- the next row is written after the row for `j` runs
pub rows_more : (t : Bool) (l : List Cell) (clue : List ℕ) (j : ℕ) (old new : List SupportMasks) → length l ≤ 128
    → AreRowsTo t l clue j old → IsRow t l clue (j + 1) (128 * (j + 1)) new
    → ((k : ℕ) → k < 128 * (j + 1) → get_or new k no_support ≡ get_or old k no_support) → AreRowsTo t l clue (j + 1) new
rows_more t l clue j old new short given next same q le i whole = elim (cases_lt q (j + 1)) [
  | inl low ↦ rw (same (128 * q + i) (omega (arith, whole.0.0.0))) (given q (omega arith) i whole)
  | inr high ↦ (let e : q ≡ j + 1 = omega arith in rw e (next i (rw e at whole)))
]
