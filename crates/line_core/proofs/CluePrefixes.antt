-- Runs and the beginning of a clue: `match_clue_prefix` removes one run for each number.
use Rattle.line_core.proofs.Names.{◌++◌, append-nil, append_assoc, length-reverse, lengths_mirrored, length_at, reverse, AreLengths, length-append, length-drop, take, rules, ◌≡◌, ◌≢◌, ◌↔◌, ℕ, zero, suc, ◌+◌, ◌<◌, ◌≤◌, Bool, true, false, not, cond, List, [], ◌∷◌, length, Option, Some, None, refl, sym, ap, ◌∙◌, arith, add-one, drop, get_or, drop-cons, drop_of_length-le, false_from_ne_true, runs, has_by, runs_after, Has, has, IsMaskOf, has_true, true_has, mask_same, runs_after-zero, runs_after-true, runs_after-close, runs_after-nil, none_has, add_comm, get_or-drop, common_steps}
use Rattle.line_core.specs.steps.CluePrefix.{IsFilled, mirrored_if}
use Rattle.line_core.proofs.RunStarts.{covered}
use Rattle.std.proofs.Math.Seq.{take-suc}
use Rattle.bit_sets.proofs.WordSteps.{some_index}

-- ---- removing run by run

-- the runs of cells, if the first `least` of them are blank
abbrev pub runs_past : ℕ → List Bool → Option (List ℕ)
runs_past zero y = Some (runs y)
runs_past (suc n) [] = Some []
runs_past (suc n) (true ∷ y) = None
runs_past (suc n) (false ∷ y) = runs_past n y

-- the invariant of `match_clue_prefix` after `j` numbers of `clue`: `left` is the mask of cells, of which the first `least`
-- must be blank, and whose runs continue the first `j` runs of `cells`
pub record IsWalked (cells : List Bool) (clue : List ℕ) (j least left : ℕ) : Type 0 where
  pub rest : List Bool
  pub rest_is : IsMaskOf (IsFilled rest) left
  pub to : (others : List ℕ) → runs cells ++ others ≡ clue → (ns : List ℕ) × (runs_past least rest ≡ Some ns) × (ns ++ others ≡ drop j clue)
  pub from : (ns : List ℕ) → runs_past least rest ≡ Some ns → runs cells ≡ take j clue ++ ns

-- blank cells at the start add no run
past_blanks : (least n : ℕ) (y : List Bool) → least ≤ n → ((i : ℕ) → i < n → get_or y i false ≡ false)
    → runs_past least y ≡ Some (runs (drop n y))
past_blanks zero (suc n) (b ∷ y) h blank = search (rules, blank 0, past_blanks zero n y (omega arith) (λ i b. blank (suc i) (omega arith)))
past_blanks (suc least) (suc n) (b ∷ y) h blank =
    search (rules, blank 0, past_blanks least n y (omega arith) (λ i b. blank (suc i) (omega arith)))
past_blanks least n y h blank = search rules

-- a filled cell among the first `least` cells rules the runs out
past_filled : (least i : ℕ) (y : List Bool) → i < least → get_or y i false ≡ true → runs_past least y ≡ None
past_filled (suc least) (suc i) (false ∷ y) h f = past_filled least i y (omega arith) f
past_filled least i y h f = search rules

past_runs : (least : ℕ) (y : List Bool) (ns : List ℕ) → runs_past least y ≡ Some ns → runs y ≡ ns
past_runs (suc least) (false ∷ y) ns e = past_runs least y ns e
past_runs least y ns e = search rules

past_none : (least left : ℕ) (y : List Bool) → IsMaskOf (IsFilled y) left → left ≡ 0 → runs_past least y ≡ Some []
past_none least left y p e = search (rules, past_blanks least (least + length y) y, false_from_ne_true, none_has, drop_of_length-le)

-- an element of a list without its first `n` elements
dropped_at : (n i : ℕ) (y : List Bool) → get_or (drop n y) i false ≡ get_or y (i + n) false
dropped_at n i y = get_or-drop n y i false ∙ ap (λ (k : ℕ). get_or y k false) (add_comm n i)

-- the first `n` cells, flipped, with the rest unchanged
abbrev crossed : ℕ → List Bool → List Bool
crossed zero y = y
crossed (suc n) [] = true ∷ crossed n []
crossed (suc n) (b ∷ y) = not b ∷ crossed n y

crossed_at : (n i : ℕ) (y : List Bool) (low : Bool) → (low ≡ true → i < n) → (low ≡ false → n ≤ i)
    → get_or (crossed n y) i false ≡ cond low (not (get_or y i false)) (get_or y i false)
crossed_at (suc n) (suc i) y low a b = search (rules, crossed_at n i [] low, crossed_at n i)
crossed_at n i y low a b = grind arith

crossed_is : (n : ℕ) (y : List Bool) (filled ones next : ℕ) → IsMaskOf (IsFilled y) filled → IsMaskOf (λ i. i < n) ones
    → IsMaskOf (λ i. has filled i ≢ has ones i) next → IsMaskOf (IsFilled (crossed n y)) next
crossed_is n y filled ones next p q r = mask_same _ _ next r (λ i differ. grind (arith, at i)) (λ i e. grind (arith, at i))
  where
    at : (i : ℕ) → get_or (crossed n y) i false ≡ cond (has ones i) (not (has filled i)) (has filled i)
    at i = search (rules, has_by, crossed_at, true_has, has_true)

-- filled cells after the start of a run make it longer
longer : (m k : ℕ) (y : List Bool) (ns : List ℕ) → runs_after (suc m) y ≡ k ∷ ns → m < k
longer m k [] ns e = grind (arith, common_steps, runs_after-nil)
longer m k (true ∷ y) ns e = let h = longer (suc m) k y ns (sym (runs_after-true (suc m) y) ∙ e) in omega arith
longer m k (false ∷ y) ns e = search (rules, runs_after, runs_after-close)

-- a run of which `m + 1` cells are passed has `k` cells exactly if the next `n` cells, flipped, and the one after them are
-- blank
cross : (m n k : ℕ) (y : List Bool) (ns : List ℕ) → suc m + n ≡ k
    → (runs_after (suc m) y ≡ k ∷ ns) ↔ (runs_past (suc n) (crossed n y) ≡ Some ns)
cross m zero k [] ns e = grind (arith, runs_after-nil m)
cross m zero k (true ∷ y) ns e = grind (arith, common_steps, longer, runs_after-true)
cross m zero k (false ∷ y) ns e = grind (arith, runs_after-close m y, runs_after-zero y)
cross m (suc n) k [] ns e = grind (arith, runs_after-nil m)
cross m (suc n) k (true ∷ y) ns e = rw runs_after-true (cross (suc m) n k y ns (omega arith))
cross m (suc n) k (false ∷ y) ns e = grind (arith, runs_after-close m y)

-- the same at the start of the first run, which the next number has to equal
cross_first : (n : ℕ) (y : List Bool) (ns : List ℕ) → 0 < n → get_or y 0 false ≡ true
    → (runs y ≡ n ∷ ns) ↔ (runs_past (n + 1) (crossed n y) ≡ Some ns)
cross_first (suc n) (true ∷ y) ns h first =
    rw (add-one, sym (runs_after-zero (true ∷ y)) ∙ runs_after-true 0 y) (cross 0 n (suc n) y ns (omega arith))
cross_first n y ns h first = search rules

-- if the first cell is filled, there is a run, and the next number of the clue is its length
first_run : (y : List Bool) (n : ℕ) (ns others more : List ℕ) → get_or y 0 false ≡ true → runs y ≡ ns → ns ++ others ≡ n ∷ more
    → (later : List ℕ) × (ns ≡ n ∷ later) × (later ++ others ≡ more)
first_run y n [] others more first is e = let c = covered y [] 0 is first in absurd (omega (arith, c.inside))
first_run y n (k ∷ ns) others more first is e = (ns, cc, cc)

module _ (cells : List Bool) (clue : List ℕ) (j least left : ℕ) (p : IsWalked cells clue j least left) where
  -- one step keeps the invariant: flip as many cells as the next number says, from the first filled cell on
  pub walk_more : (start shifted ones next : ℕ) → j < length clue → 0 < get_or clue j 0 → Has left start
      → ((i : ℕ) → Has left i → start ≤ i)
      → least ≤ start → IsMaskOf (λ i. Has left (i + start)) shifted → IsMaskOf (λ i. i < get_or clue j 0) ones
      → IsMaskOf (λ i. has shifted i ≢ has ones i) next → IsWalked cells clue (j + 1) (get_or clue j 0 + 1) next
  walk_more start shifted ones next h some at first far s o x =
      let n = get_or clue j 0 in
      let y = drop start p.rest in
      let skip = past_blanks least start p.rest far (λ i b. grind (arith, common_steps, false_from_ne_true)) in
      let filled : get_or y 0 false ≡ true = grind (arith, common_steps, dropped_at) in
      let next_is : drop j clue ≡ n ∷ drop (j + 1) clue = rw add-one (drop-cons clue j 0 h) in record {
        rest = crossed n y;
        rest_is = crossed_is n y shifted ones next (search (rules, mask_same, dropped_at)) o x;
        to = λ others e.
            let t = p.to others e in
            let is : runs y ≡ t.0 = let e = skip in let some = t.1 in cc in
            let r = first_run y n t.0 others (drop (j + 1) clue) filled is (t.2 ∙ next_is) in
            (r.0, (cross_first n y r.0 some filled).0 (let e = is in let run = r.1 in cc), r.2);
        from = λ ns e.
            let run = (cross_first n y ns some filled).1 e in
            let all : runs cells ≡ take j clue ++ (n ∷ ns) = p.from (n ∷ ns) (let s = skip in cc) in
            rw (add-one j, take-suc clue j 0 h, append_assoc) all;
      }

  -- if a filled cell is among those that must be blank, the runs are not how the clue begins
  pub walk_near : (start : ℕ) → start < least → Has left start → (others : List ℕ) → runs cells ++ others ≡ clue → ⊥
  walk_near start h at others is =
      let none = past_filled least start p.rest h (p.rest_is.to start at) in let some = (p.to others is).1 in cc

  -- if no filled cell is left, the runs are the first `j` numbers of the clue
  pub walk_none : left ≡ 0 → runs cells ≡ take j clue
  walk_none e = p.from [] (past_none least left p.rest p.rest_is e) ∙ append-nil (take j clue)

  -- if a filled cell is left after the last number, there is one run too many
  pub walk_last : length clue ≤ j → 0 < left → (others : List ℕ) → runs cells ++ others ≡ clue → ⊥
  walk_last h some others is =
      let t = p.to others is in
      let c = covered p.rest t.0 _ (past_runs least p.rest t.0 t.1) (p.rest_is.to _ (some_index left some).1) in
      absurd (omega (arith, c.inside, length-append t.0 others, ap length t.2, length-drop j clue))

-- ---- a clue read from the other end

pub length-mirrored_if : {A : Type 0} (t : Bool) (xs : List A) → length (mirrored_if t xs) ≡ length xs
length-mirrored_if true xs = length-reverse xs
length-mirrored_if false xs = refl

pub mirrored_number : (t : Bool) (width : ℕ) (clue : List ℕ) (j n : ℕ) → AreLengths width clue → j < length clue
    → n ≡ get_or (mirrored_if t clue) j 0
    → (0 < n) × (n ≤ width)
mirrored_number true width clue j n are h e =
    rw e (length_at width (reverse clue) j (lengths_mirrored width clue are) (omega (arith, length-reverse clue)))
mirrored_number false width clue j n are h e = rw e (length_at width clue j are h)
