-- What the outcome of a trial shows of a cell, and why assigning the colour that is left is a step towards the grid
-- after trials.
use Rattle.solve_core.proofs.Names.{◌≡◌, ℕ, ◌+◌, ◌<◌, inl, inr, Bool, true, false, List, length, get_or, set, Some, None, ap, ◌∙◌, arith, zero-add, Cell, Unknown, Filled, Blank, CellExtends, Extends, is_known, GridLine, Changed, round, closure, is_refuted, left_over, after_trials_of, trial_round, trials, HasNoRefutedColour, StepsTowards, unknown_count, AtMost, Extends-refl, Extends-trans, length-Extends, rules}
use Rattle.solve_core.proofs.Order.{set_extends, set_within, below_each}
use Rattle.solve_core.proofs.Closing.{repeat-fixed, fewer_unknown}
use Rattle.solve_core.proofs.ClosureLaws.{closure-IsLeastClosed, same_at_most}
use Rattle.solve_core.proofs.TrialLaws.{OptionBelow, cells_after_trials, cells_after_trials-above, all_below, each_below, after_trials_of-below, after_trials, trials-IsLeastClosed, left_blank_below, left_filled_below}
use Rattle.solve_core.proofs.LineSteps.{least_between}
use Rattle.solve_core.proofs.TrailSteps.{count-settled}

-- trials from a grid between `g` and the grid after trials of `g` yield the same grid
pub trials_between : (lines : List GridLine) (g z : List Cell) → Extends g z → AtMost (Some z) (trials lines g) →
    trials lines z ≡ trials lines g
trials_between lines g z h below = least_between (trial_round lines) g z (trials lines g) (trials lines z) (trials-IsLeastClosed lines g)
    (trials-IsLeastClosed lines z) h below

-- a trial-closed grid is line-closed
pub trial_closed-round : (lines : List GridLine) (z : List Cell) → trial_round lines z ≡ Some z → round lines z ≡ Some z
trial_closed-round lines z e = (after_trials lines z z (cells_after_trials lines z) e).1

pub closure_below : (lines : List GridLine) (g : List Cell) → AtMost (closure lines g) (trials lines g)
closure_below lines g = search (rules, below_each, trials-IsLeastClosed, closure-IsLeastClosed, trial_closed-round)

-- trials from the closure of a grid yield the same as trials from the grid
pub closure_trials : (lines : List GridLine) (g new : List Cell) → closure lines g ≡ Some new → trials lines new ≡ trials lines g
closure_trials lines g new e = search (rules, trials_between, closure-IsLeastClosed, closure_below)

-- the outcome of the trials of one cell is below each trial-closed grid that extends the grid
tried_at_end : (lines : List GridLine) (g w : List Cell) (k : ℕ) → trial_round lines w ≡ Some w → Extends g w → k < length w →
    OptionBelow (after_trials_of lines g k Unknown) (get_or w k Unknown)
tried_at_end lines g w k closed gw l =
    let after = after_trials lines w w (cells_after_trials lines w) closed in
    let at = λ (j : ℕ). after_trials_of lines w j (get_or w j Unknown) in
    let here : OptionBelow (after_trials_of lines w k (get_or w k Unknown)) (get_or w k Unknown) =
    rw (zero-add k) at (each_below at 0 w after.0 k l) in
    after_trials_of-below lines g w w k Unknown gw (Extends-refl w) after.1 l tt here

left_below : (lines : List GridLine) (g : List Cell) (k : ℕ) (colour : Cell) → k < length g →
    ((w : Cell) → OptionBelow (after_trials_of lines g k Unknown) w → CellExtends colour w)
    → AtMost (Some (set g k colour)) (trials lines g)
left_below lines g k colour l below = search (rules, below_each, trials-IsLeastClosed, set_within, tried_at_end, length-Extends)

-- if filled is refuted, the grid with the cell blank is below the grid after trials
pub blank_below : (lines : List GridLine) (g : List Cell) (k : ℕ) → k < length g → is_refuted lines g k Filled ≡ true →
    AtMost (Some (set g k Blank)) (trials lines g)
blank_below lines g k l r = left_below lines g k Blank l (λ w h. left_blank_below (is_refuted lines g k Blank) w (rw r at h))

-- if blank is refuted, the grid with the cell filled is below the grid after trials
pub filled_below : (lines : List GridLine) (g : List Cell) (k : ℕ) → k < length g → is_refuted lines g k Blank ≡ true →
    AtMost (Some (set g k Filled)) (trials lines g)
filled_below lines g k l r = left_below lines g k Filled l (λ w h. left_filled_below (is_refuted lines g k Filled) w (rw r at h))

-- a line-closed grid in which no unknown cell has a refuted colour is trial-closed
pub tried-closed : (lines : List GridLine) (z : List Cell) → round lines z ≡ Some z
    → ((k : ℕ) → k < length z → HasNoRefutedColour lines z k) →
    trial_round lines z ≡ Some z
tried-closed lines z e h = search (rules, same_at_most, cells_after_trials-above, all_below, zero-add, repeat-fixed)

neither_refuted : (a b : Bool) → OptionBelow (left_over a b) Unknown → (a ≡ false) × (b ≡ false)
neither_refuted a b h = search rules

-- in a trial-closed grid no unknown cell has a refuted colour
pub closed-tried : (lines : List GridLine) (z : List Cell) → trial_round lines z ≡ Some z → (k : ℕ) → k < length z
    → HasNoRefutedColour lines z k
closed-tried lines z e k l unknown =
    let here = tried_at_end lines z z k e (Extends-refl z) l in
    neither_refuted (is_refuted lines z k Filled) (is_refuted lines z k Blank) (rw unknown at here)

-- trials leave a line-closed grid unchanged if no unknown cell has a refuted colour
pub tried_ends : (lines : List GridLine) (z : List Cell) → round lines z ≡ Some z
    → ((k : ℕ) → k < length z → HasNoRefutedColour lines z k) →
    trials lines z ≡ Some z
tried_ends lines z e h = repeat-fixed (trial_round lines) (length z + 1) z (tried-closed lines z e h)

-- the colour of a cell in a line-closed grid isn't refuted in a grid that it extends
pub met_consistent : (lines : List GridLine) (g z : List Cell) (k : ℕ) (d : Cell) → round lines z ≡ Some z → Extends g z →
    get_or z k Unknown ≡ d → is_refuted lines g k d ≡ false
met_consistent lines g z k d closed h at = search (rules, set_within, closure-IsLeastClosed)

-- the closure after an unknown cell is assigned extends the grid
pub settled-extends : (lines : List GridLine) (g z : List Cell) (k : ℕ) (c : Cell) → get_or g k Unknown ≡ Unknown →
    closure lines (set g k c) ≡ Some z → Extends g z
settled-extends lines g z k c unknown e =
    let above : Extends (set g k c) z = rw e at ((closure-IsLeastClosed lines (set g k c)).above) in
    Extends-trans g (set g k c) z (set_extends g k c unknown) above

-- assigning a cell as trials do is a step towards the grid after trials
pub assign-changed : (lines : List GridLine) (g new : List Cell) (k : ℕ) (c : Cell) → k < length g → get_or g k Unknown ≡ Unknown →
    is_known c ≡ true → AtMost (Some (set g k c)) (trials lines g) → closure lines (set g k c) ≡ Some new
    → StepsTowards (trials lines) Changed g new
assign-changed lines g new k c l unknown n below e =
    let z = set g k c in
    let above : Extends z new = rw e at ((closure-IsLeastClosed lines z).above) in
    let fewer = count-settled g k c l unknown n in (
      closure_trials lines z new e ∙ trials_between lines g z (set_extends g k c unknown) below,
      elim (fewer_unknown z new above) [ inl s ↦ omega (arith, ap unknown_count s, fewer) | inr m ↦ omega (arith, m, fewer) ],
    )

-- if assigning a cell as trials do leads to a dead closure, the trials end dead
pub assign-dead : (lines : List GridLine) (g : List Cell) (k : ℕ) (c : Cell) → get_or g k Unknown ≡ Unknown →
    AtMost (Some (set g k c)) (trials lines g) → closure lines (set g k c) ≡ None → trials lines g ≡ None
assign-dead lines g k c unknown below e = search (rules, trials_between, set_extends, closure_below)
