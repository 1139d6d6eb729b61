-- Trials yield the least trial-closed grid above a grid, and solutions are trial-closed.
use Rattle.solve_core.proofs.Names.{◌≡◌, ℕ, zero, suc, ◌+◌, ◌<◌, Bool, true, List, [], ◌∷◌, length, get_or, map, Option, Some, None, option_and_then, ◌∙◌, arith, slice_index_or, true≢false, add-zero, zero-add, range_with_len, length-map, Cell, Unknown, Filled, Blank, CellExtends, Extends, colour, GridLine, option_cons, round, closure, is_refuted, left_over, after_trials_of, all_present, trial_round, trials, AtMost, Extends-trans, length-Extends, Extends-at, get_or-map_colour, IsLeastClosed, rules}
use Rattle.solve_core.proofs.SearchLaws.{same_known}
use Rattle.solve_core.proofs.Order.{CellAtMost, cons_at_most, set_within, below_each}
use Rattle.solve_core.proofs.Closing.{IsDeduction, repeat-fixed, and_then-above, and_then-below}
use Rattle.solve_core.proofs.ClosureLaws.{closure-IsLeastClosed, repeat-IsLeastClosed, MeetsLines, same_at_most, set-monotone, round-above, round-below}

-- all cells of a grid, each after the trials of both colours
abbrev pub cells_after_trials : List GridLine → List Cell → Option (List Cell)
cells_after_trials lines grid =
    all_present (map (λ k. after_trials_of lines grid k (slice_index_or grid k Unknown)) (range_with_len 0 (length grid)))

-- an outcome of a cell is below a cell: it is a cell that the other one extends
abbrev pub OptionBelow : Option Cell → Cell → Type 0
OptionBelow None c = ⊥
OptionBelow (Some d) c = CellExtends d c

-- outcomes that are above the cells of `g`, index by index, are above `g` as a grid
all_above : (f : ℕ → Option Cell) (n : ℕ) (g : List Cell) → ((k : ℕ) → k < length g → CellAtMost (get_or g k Unknown) (f (n + k))) →
    AtMost (Some g) (all_present (map f (range_with_len n (length g))))
all_above f n [] h = tt
all_above f n (c ∷ g) h =
    cons_at_most c g (f n) (all_present (map f (range_with_len (n + 1) (length g)))) (rw add-zero at (h 0 (omega arith)))
    (all_above f (n + 1) g (λ k l. let e : n + suc k ≡ n + 1 + k = omega arith in rw e at (h (suc k) (omega arith))))

-- the trials of all cells only add known cells
pub cells_after_trials-above : (lines : List GridLine) (g : List Cell) → AtMost (Some g) (cells_after_trials lines g)
cells_after_trials-above lines g = search (rules, all_above, zero-add)

cons_below : (o : Option Cell) (os : Option (List Cell)) (c : Cell) (w : List Cell) → OptionBelow o c → AtMost os (Some w) →
    AtMost (option_cons o os) (Some (c ∷ w))
cons_below o os c w h k = search rules

-- outcomes that are below the cells of `w`, index by index, are below `w` as a grid
pub all_below : (f : ℕ → Option Cell) (n : ℕ) (w : List Cell) → ((k : ℕ) → k < length w → OptionBelow (f (n + k)) (get_or w k Unknown)) →
    AtMost (all_present (map f (range_with_len n (length w)))) (Some w)
all_below f n [] h = tt
all_below f n (c ∷ w) h =
    cons_below (f n) (all_present (map f (range_with_len (n + 1) (length w)))) c w (rw add-zero at (h 0 (omega arith)))
    (all_below f (n + 1) w (λ k l. let e : n + suc k ≡ n + 1 + k = omega arith in rw e at (h (suc k) (omega arith))))

cons_parts : (o : Option Cell) (os : Option (List Cell)) (c : Cell) (w : List Cell) → AtMost (option_cons o os) (Some (c ∷ w)) →
    OptionBelow o c × AtMost os (Some w)
cons_parts o os c w h = search rules

-- outcomes that are below `w` as a grid are below its cells, index by index
pub each_below : (f : ℕ → Option Cell) (n : ℕ) (w : List Cell) → AtMost (all_present (map f (range_with_len n (length w)))) (Some w) →
    (k : ℕ) → k < length w → OptionBelow (f (n + k)) (get_or w k Unknown)
each_below f n [] h k l = absurd (omega arith)
each_below f n (c ∷ w) h zero l = rw add-zero (cons_parts (f n) (all_present (map f (range_with_len (n + 1) (length w)))) c w h).0
each_below f n (c ∷ w) h (suc k) l =
    let e : n + suc k ≡ n + 1 + k = omega arith in
    rw e (each_below f (n + 1) w (cons_parts (f n) (all_present (map f (range_with_len (n + 1) (length w)))) c w h).1 k (omega arith))

pub is_refuted-monotone : (lines : List GridLine) (g z : List Cell) (k : ℕ) (c : Cell) → CellExtends c c → Extends g z →
    is_refuted lines g k c ≡ true → is_refuted lines z k c ≡ true
is_refuted-monotone lines g z k c s h e = search (rules, below_each, closure-IsLeastClosed, Extends-trans, set-monotone)

pub left_blank_below : (b : Bool) (w : Cell) → OptionBelow (left_over true b) w → CellExtends Blank w
left_blank_below b w h = search rules

pub left_filled_below : (b : Bool) (w : Cell) → OptionBelow (left_over b true) w → CellExtends Filled w
left_filled_below b w h = search rules

-- if filled is refuted, a cell above the outcome of the trials that isn't filled is blank
left_blank : (lines : List GridLine) (z : List Cell) (k : ℕ) (c w : Cell) → CellExtends c w → OptionBelow (after_trials_of lines z k c) w →
    is_refuted lines z k Filled ≡ true → (CellExtends Filled w → ⊥) → w ≡ Blank
left_blank lines z k c w h l m n = search (rules, same_known, left_blank_below)

left_filled : (lines : List GridLine) (z : List Cell) (k : ℕ) (c w : Cell) → CellExtends c w → OptionBelow (after_trials_of lines z k c) w →
    is_refuted lines z k Blank ≡ true → (CellExtends Blank w → ⊥) → w ≡ Filled
left_filled lines z k c w h l m n = search (rules, same_known, left_filled_below)

-- the trials of one cell are monotone below a line-closed grid `w`
pub after_trials_of-below : (lines : List GridLine) (g z w : List Cell) (k : ℕ) (c : Cell) → Extends g z → Extends z w
    → round lines w ≡ Some w →
    k < length w → CellExtends c (get_or w k Unknown) → OptionBelow (after_trials_of lines z k (get_or z k Unknown)) (get_or w k Unknown) →
    OptionBelow (after_trials_of lines g k c) (get_or w k Unknown)
after_trials_of-below lines g z w k c h l m n o p =
    search (rules, left_blank, is_refuted-monotone, true≢false, closure-IsLeastClosed, set_within, left_filled)

-- the trials of all cells are monotone below a line-closed grid `w`
cells_after_trials-below : (lines : List GridLine) (g z w : List Cell) → Extends g z → Extends z w → round lines w ≡ Some w →
    AtMost (cells_after_trials lines z) (Some w) → AtMost (cells_after_trials lines g) (Some w)
cells_after_trials-below lines g z w gz zw closed below =
    let lz : length z ≡ length w = length-Extends z w zw in
    let lg : length g ≡ length w = length-Extends g z gz ∙ lz in
    let at_z = λ (k : ℕ). after_trials_of lines z k (get_or z k Unknown) in
    let at_g = λ (k : ℕ). after_trials_of lines g k (get_or g k Unknown) in
    let each : AtMost (all_present (map at_z (range_with_len 0 (length w)))) (Some w) = rw lz at below in
    rw lg
    (all_below at_g 0 w (λ k l.
    rw (zero-add k)
    (after_trials_of-below lines g z w k (get_or g k Unknown) gz zw closed l (Extends-at g w k (Extends-trans g z w gz zw))
    (rw (zero-add k) at (each_below at_z 0 w each k l)))))

-- the closure after trials is line-closed, and above what the trials assign
pub after_trials : (lines : List GridLine) (z w : List Cell) (o : Option (List Cell)) → option_and_then (closure lines) o ≡ Some w →
    AtMost o (Some w) × (round lines w ≡ Some w)
after_trials lines z w o h = search (rules, closure-IsLeastClosed)

pub trial_round-deduction : (lines : List GridLine) → IsDeduction (trial_round lines)
trial_round-deduction lines =
    search (
      rules,
      and_then-above,
      cells_after_trials-above,
      below_each,
      after_trials,
      and_then-below,
      closure-IsLeastClosed,
      cells_after_trials-below,
    )

-- the grid after trials is the least trial-closed grid that extends the grid, or dead if there is none
pub trials-IsLeastClosed : (lines : List GridLine) (g : List Cell) → IsLeastClosed (trial_round lines) g (trials lines g)
trials-IsLeastClosed lines g = repeat-IsLeastClosed (trial_round lines) (trial_round-deduction lines) g

-- a solution is trial-closed
pub trial_round-solution : (lines : List GridLine) (full : List Bool) → MeetsLines lines full →
    trial_round lines (map colour full) ≡ Some (map colour full)
trial_round-solution lines full m =
    search (rules, same_at_most, cells_after_trials-above, all_below, get_or-map_colour, length-map, repeat-fixed, round-above, round-below)
