-- Effects of the steps of propagation on the state of a workspace.
use Rattle.solve_core.proofs.Names.{true≢false, ◌≡◌, ◌≢◌, ◌∙◌, ◌+◌, ◌*◌, ◌<◌, ◌≤◌, ◌⊎◌, inl, inr, ℕ, Bool, false, true, List, [], None, Option, Some, length, get_or, drop, take, set, refl, sym, ap, arith, append-nil, length-take, Cell, Unknown, Axis, Rows, Columns, Nonogram, IsNonogram, TrailedGrid, ColourMasks, LineMasks, IsBoardOf, IsTrailed, mask_on, IsInMask, IsEmptyMask, cells_at, cells_along, crossing, line_on, lines_of, line_count, cell_index_on, Has, IsMaskOf, IsWithBit, IsChanged, deduced, same_cells, length-cells_at, get_or-cells_at, length-line_indices, get_or-line_indices, deduced-above, IsWritten, IsPropagated, AddsToWorklist, StepsTowards, WorklistAfter, Dead, Unchanged, Changed, closure, with_cells, Deduces, Propagates, PropagatesLines, PropagatesOn, Closes, Enqueues, HasWorklist, IsLater, IsWorkspace, WorkspaceState, clue_index, puzzle_of, state_of, nat_eq, same_without_change, length-deduced, CanAssignLine}
use Rattle.std.proofs.lemmas.List.{get_or-drop, get_or-take, length-drop}
use Rattle.solve_core.specs.declared.solving.propagation.Effect.{Effect}
use Rattle.solve_core.proofs.TrailSteps.{length-undone, trailed_trans}
use Rattle.solve_core.proofs.AxisLines.{below_indices, crossing_twice, distinct_indices, line_is_one}
use Rattle.solve_core.proofs.GridSteps.{assigned-effect, dirty-after, none_dirty_closed, place_worklist}
use Rattle.solve_core.proofs.LineSteps.{written-fewer, written-read}

-- a board is its own extension, without any entry
trailed_refl : (g : TrailedGrid) → IsTrailed g g
trailed_refl g = record {
  added = [];
  width = refl;
  height = refl;
  kept = sym (append-nil g.trail);
  undo = refl;
  count = omega arith;
}

-- a state is later than itself
pub later_refl : (s : WorkspaceState) → IsLater s s
later_refl s = record { puzzle = refl; trail = trailed_refl s.board; consistent = refl }

-- assignments after assignments are assignments
pub later_trans : (a b c : WorkspaceState) → IsLater a b → IsLater b c → IsLater a c
later_trans a b c x y = record {
  puzzle = y.puzzle ∙ x.puzzle;
  trail = trailed_trans a.board b.board c.board x.trail y.trail;
  consistent = y.consistent ∙ x.consistent;
}

-- assignments keep what is always true of a workspace
pub workspace-later : (most : ℕ) (clues : List (List ℕ)) (g new : TrailedGrid) (dirty after : LineMasks) (consistent : List ColourMasks)
    → IsWorkspace most (state_of clues g dirty consistent) → IsTrailed g new → IsWorkspace most (state_of clues new after consistent)
workspace-later most clues g new dirty after consistent is t =
    let long : length new.cells ≡ length g.cells = sym (length-undone new.cells t.added) ∙ ap length t.undo in
    rw (t.width, t.height)
    (record { puzzle = is.puzzle; fits = is.fits; board = (refl, refl, long ∙ is.board.2); rows = is.rows })

module _ (clues : List (List ℕ)) (g : TrailedGrid) (is : IsNonogram (puzzle_of clues g)) where
  -- the clue of each line is in the list
  pub clue-within : (axis : Axis) (i : ℕ) → i < line_count axis g.width g.height → clue_index axis g.height i < length clues
  clue-within Rows i l =
      let row : i < g.height = l in
      let rows : length (take g.height clues) ≡ g.height = is.clues.0 in
      let within : i < length clues = omega (arith, row, rows, length-take g.height clues) in
      within
  clue-within Columns i l =
      let column : i < g.width = l in
      let columns : length (drop g.height clues) ≡ g.width = is.clues.1 in
      let within : g.height + i < length clues = omega (arith, column, columns, length-drop g.height clues) in
      within

  -- it is the line's clue
  pub clue-is : (axis : Axis) (i : ℕ) → i < line_count axis g.width g.height
      → get_or clues (clue_index axis g.height i) [] ≡ (line_on axis (puzzle_of clues g) i).clue
  clue-is Rows i l = sym (get_or-take g.height clues i [] l)
  clue-is Columns i l = sym (get_or-drop g.height clues i [])

  -- deducing the cells along a line with that clue is deducing the line
  pub line-deduced : (axis : Axis) (i k : ℕ) (line : List Cell) → i < line_count axis g.width g.height
      → k ≡ clue_index axis g.height i → line ≡ cells_along g axis i
      → deduced line (get_or clues k []) ≡ deduced (cells_along g axis i) (line_on axis (puzzle_of clues g) i).clue
  line-deduced axis i k line l at along = rw (at, along, clue-is axis i l) refl

-- a line can be assigned what is deduced of it, if that is more
pub deduced_assigns : (g : TrailedGrid) (axis : Axis) (i m : ℕ) (certain line : List Cell) (clue : List ℕ)
    → i < line_count axis g.width g.height
    → line ≡ cells_along g axis i → Some certain ≡ deduced line clue → IsMaskOf (IsChanged line certain) m → nat_eq m 0 ≡ false
    → CanAssignLine g axis i certain m
deduced_assigns g axis i m certain line clue l along given changes some = record {
  line = l;
  more = rw along at (rw (← given) at (deduced-above line clue));
  changes_are = rw along at changes;
  some = λ e.
      let same = same_without_change line certain m (length-deduced line certain clue given) changes in
      true≢false (sym (same.1 (along ∙ sym e)) ∙ some);
}

-- nothing is added to a worklist if nothing changed
nothing_added : (p : Nonogram) (axis : Axis) (i : ℕ) (cells : List Cell) (dirty : LineMasks)
    → AddsToWorklist p axis i cells cells dirty dirty
nothing_added p axis i cells dirty = record {
  own = refl;
  kept = λ k h. h;
  crossing_it = λ k h. inl h;
  same = λ k l n. refl;
}

-- deducing a line that is dead, or deduces just its own cells, changes nothing
pub deduces-nothing : (s : WorkspaceState) (axis : Axis) (i : ℕ) (effect : Effect)
    → IsPropagated effect (line_on axis s.puzzle i) s.board.cells s.board.cells → Deduces axis i effect s s
deduces-nothing s axis i effect is = record {
  later = later_refl s;
  assigned = is;
  worklist = nothing_added s.puzzle axis i s.board.cells s.dirty;
  same = λ e. refl;
}

-- a cell of a line that isn't among the line's changes keeps its value
unchanged : (p : Nonogram) (old new certain : List Cell) (axis : Axis) (i k m : ℕ) → 0 < p.width → i < line_count axis p.width p.height →
    length old ≡ p.width * p.height → (w : IsWritten (line_on axis p i) old new) → w.certain ≡ certain →
    IsMaskOf (IsChanged (cells_at Unknown old ((line_on axis p i).indices)) certain) m → k < line_count (crossing axis) p.width p.height →
    (Has m k → ⊥) → get_or new (cell_index_on axis p.width i k) Unknown ≡ get_or old (cell_index_on axis p.width i k) Unknown
unchanged p old new certain axis i k m positive l size w e changes lk n =
    let line = line_on axis p i in
    let indices = line.indices in
    let line_old = cells_at Unknown old indices in
    let at = get_or-line_indices axis p.width p.height i k lk in
    let here : k < length indices = omega (arith, lk, length-line_indices axis p.width p.height i) in
    let read = written-read line old new w (distinct_indices axis p.width p.height i positive)
    (rw size (below_indices axis p.width p.height i l)) ∙ e in
    ap (λ (q : ℕ). get_or new q Unknown) (sym at) ∙ sym (get_or-cells_at Unknown new indices k here) ∙
    ap (λ (r : List Cell). get_or r k Unknown) read ∙
    same_cells (get_or line_old k Unknown) (get_or certain k Unknown)
    (λ d. n (changes.from k (omega (arith, here, length-cells_at Unknown old indices), d))) ∙
    get_or-cells_at Unknown old indices k here ∙ ap (λ (q : ℕ). get_or old q Unknown) at

-- writing the deduced line, and adding the lines that cross it at a change, is deducing it
pub deduces-line : (s new : WorkspaceState) (axis : Axis) (i m : ℕ) (certain : List Cell) → IsNonogram s.puzzle → IsBoardOf s.puzzle s.board
    → i < line_count axis s.puzzle.width s.puzzle.height
    → deduced (cells_at Unknown s.board.cells (line_on axis s.puzzle i).indices) (line_on axis s.puzzle i).clue ≡ Some certain
    → IsMaskOf (IsChanged (cells_at Unknown s.board.cells (line_on axis s.puzzle i).indices) certain) m
    → certain ≢ cells_at Unknown s.board.cells (line_on axis s.puzzle i).indices
    → IsLater s new → new.board.cells ≡ with_cells s.board.cells (line_on axis s.puzzle i).indices certain
    → IsMaskOf (λ k. Has (mask_on (crossing axis) s.dirty) k ⊎ Has m k) (mask_on (crossing axis) new.dirty)
    → mask_on (crossing (crossing axis)) new.dirty ≡ mask_on (crossing (crossing axis)) s.dirty → Deduces axis i Changed s new
deduces-line s new axis i m certain is size l given changes some later cells added other =
    let p = s.puzzle in
    let old = s.board.cells in
    let line = line_on axis p i in
    let positive : 0 < p.width = omega (arith, is.size.width_from) in
    let w : IsWritten line old new.board.cells = record { certain = certain; is_certain = given; written = cells } in
    record {
      later = later;
      assigned = (
        w,
        written-fewer line old new.board.cells w some (distinct_indices axis p.width p.height i positive)
            (rw size.2 (below_indices axis p.width p.height i l)),
      );
      worklist = record {
        own = rw crossing_twice at other;
        kept = λ k h. added.from k (inl h);
        crossing_it = λ k h. elim (added.to k h) [
          | inl before ↦ inl before
          | inr cell ↦ inr (omega (
            arith,
            changes.to k cell,
            length-cells_at Unknown old line.indices,
            length-line_indices axis p.width p.height i,
          ))
        ];
        same = λ k lk n. unchanged p old new.board.cells certain axis i k m positive l size.2 w refl changes lk
            (λ h. n (added.from k (inr h)));
      };
      same = λ e. cc;
    }

-- deducing a line that is removed from the worklist is a step towards the closure
pub propagates-line : (s new : WorkspaceState) (dirty : LineMasks) (axis : Axis) (i : ℕ) (effect : Effect) → HasWorklist s
    → i < line_count axis s.puzzle.width s.puzzle.height
    → IsMaskOf (IsWithBit (Has (mask_on axis s.dirty)) i false) (mask_on axis dirty)
    → mask_on (crossing axis) dirty ≡ mask_on (crossing axis) s.dirty
    → Deduces axis i effect (record s { dirty = dirty }) new
    → PropagatesOn axis effect s new × IsMaskOf (IsWithBit (Has (mask_on axis s.dirty)) i false) (mask_on axis new.dirty)
propagates-line s new dirty axis i effect worklist l taken other did = (
  record {
    step = record {
      later = record { puzzle = did.later.puzzle; trail = did.later.trail; consistent = did.later.consistent };
      effect_is = assigned-effect (lines_of s.puzzle) (line_on axis s.puzzle i) s.board.cells new.board.cells effect
          (line_is_one axis s.puzzle i worklist.puzzle l) did.assigned;
      worklist = rw did.later.puzzle
          (dirty-after s.puzzle s.board.cells new.board.cells s.dirty dirty new.dirty axis i effect worklist l taken other
          did.assigned did.worklist);
    };
    same = λ e. ap (mask_on (crossing axis)) (did.same e) ∙ other;
  },
  rw did.worklist.own taken,
)

-- a step that isn't dead doesn't change the closure, and leaves a worklist
pub step-keeps : (effect : Effect) (old new : WorkspaceState) → effect ≢ Dead → Propagates effect old new
    → (closure (lines_of old.puzzle) new.board.cells ≡ closure (lines_of old.puzzle) old.board.cells) × HasWorklist new
step-keeps Dead old new alive step = absurd (alive refl)
step-keeps Unchanged old new alive step = (ap (closure (lines_of old.puzzle)) step.effect_is, step.worklist)
step-keeps Changed old new alive step = (step.effect_is.0, step.worklist)

-- the effect of a step after another one, which wasn't dead
abbrev pub then : Effect → Effect → Effect
then first Dead = Dead
then first Unchanged = first
then first Changed = Changed

-- two steps towards `f` are one
pub steps-then : (f : List Cell → Option (List Cell)) (first second : Effect) (a b c : List Cell) → first ≢ Dead → StepsTowards f first a b
    → StepsTowards f second b c → StepsTowards f (then first second) a c
steps-then f Dead second a b c alive x y = absurd (alive refl)
steps-then f Unchanged Dead a b c alive x y = rw x at y
steps-then f Unchanged Unchanged a b c alive x y = y ∙ x
steps-then f Unchanged Changed a b c alive x y = rw x at y
steps-then f Changed Dead a b c alive x y = sym x.0 ∙ y
steps-then f Changed Unchanged a b c alive x y = rw y x
steps-then f Changed Changed a b c alive x y = (y.0 ∙ x.0, omega (arith, x.1, y.1))

-- two steps on lines of one axis are one
pub on-then : (axis : Axis) (first second : Effect) (a b c : WorkspaceState) → first ≢ Dead → PropagatesOn axis first a b
    → PropagatesOn axis second b c → PropagatesOn axis (then first second) a c
on-then axis first second a b c alive x y = record {
  step = record {
    later = later_trans a b c x.step.later y.step.later;
    effect_is = steps-then (closure (lines_of a.puzzle)) first second a.board.cells b.board.cells c.board.cells alive x.step.effect_is
        (rw x.step.later.puzzle at y.step.effect_is);
    worklist = list first second alive y.step;
  };
  same = same first second x.same y.same;
}
  where
    list : (first second : Effect) → first ≢ Dead → Propagates second b c → WorklistAfter (then first second) c.puzzle c.dirty c.board.cells
    list first Dead alive y = tt
    list Dead Unchanged alive y = absurd (alive refl)
    list Unchanged Unchanged alive y = y.worklist
    list Changed Unchanged alive y = y.worklist
    list first Changed alive y = y.worklist

    same : (first second : Effect) → (first ≡ Unchanged → mask_on (crossing axis) b.dirty ≡ mask_on (crossing axis) a.dirty)
        → (second ≡ Unchanged → mask_on (crossing axis) c.dirty ≡ mask_on (crossing axis) b.dirty)
        → then first second ≡ Unchanged → mask_on (crossing axis) c.dirty ≡ mask_on (crossing axis) a.dirty
    same first Dead x y e = cc
    same first Unchanged x y e = y refl ∙ x e
    same first Changed x y e = cc

-- a step from a state with the same closure as the first one
pub step-from : (effect : Effect) (a b c : WorkspaceState) → IsLater a b
    → closure (lines_of a.puzzle) b.board.cells ≡ closure (lines_of a.puzzle) a.board.cells → Propagates effect b c
    → IsLater a c × (effect ≡ Dead → closure (lines_of a.puzzle) a.board.cells ≡ None)
    × (effect ≢ Dead → (closure (lines_of a.puzzle) c.board.cells ≡ closure (lines_of a.puzzle) a.board.cells) × HasWorklist c)
step-from effect a b c later same step = (
  later_trans a b c later step.later,
  λ e. sym same ∙ rw (e, later.puzzle) at step.effect_is,
  λ n. ((rw later.puzzle at (step-keeps effect b c n step).0) ∙ same, (step-keeps effect b c n step).1),
)

-- if no row is dirty, and then a pass over the columns makes none dirty, no line is
pub none_dirty : (lines old new : LineMasks) → ((i : ℕ) → Has (mask_on Rows lines) i → IsInMask old Rows i → ⊥)
    → mask_on Rows new ≡ mask_on Rows old → ((i : ℕ) → Has (mask_on Columns lines) i → IsInMask new Columns i → ⊥)
    → (axis : Axis) (i : ℕ) → IsInMask lines axis i → IsInMask new axis i → ⊥
none_dirty lines old new rows same columns Rows i h k = rows i h (rw same at k)
none_dirty lines old new rows same columns Columns i h k = columns i h k

-- if all lines were propagated, the board is closed
pub all-closed : (most : ℕ) (old new : WorkspaceState) (all : LineMasks) → ((axis : Axis) (i : ℕ) → i < most → IsInMask all axis i)
    → (new.puzzle.width ≤ most) × (new.puzzle.height ≤ most) → PropagatesLines all true old new → Closes old.board.cells true old new
all-closed most old new all every fits did =
    let worklist = did.worklist refl in
    let clean : IsEmptyMask new.dirty = λ axis i h. did.none_dirty refl axis i (every axis i (below axis i (worklist.within axis i h))) h in
    record {
      later = did.later;
      closed = sym (none_dirty_closed _ _ _ worklist clean) ∙ (rw did.later.puzzle (did.kept refl));
      clean = clean;
      fixpoint = λ t. record { worklist = worklist; clean = clean };
    }
  where
    below : (axis : Axis) (i : ℕ) → i < line_count axis new.puzzle.width new.puzzle.height → i < most
    below Rows i l = omega arith
    below Columns i l = omega arith

-- the row and the column of a cell that is assigned are added to the worklist
pub cell-enqueued : (clues : List (List ℕ)) (g new : TrailedGrid) (dirty middle after : LineMasks) (consistent : List ColourMasks)
    (place y x : ℕ) (colour : Cell) → HasWorklist (state_of clues g dirty consistent) → y < g.height → x < g.width → place ≡ y * g.width + x
    → IsMaskOf (IsWithBit (Has dirty.rows) y true) middle.rows → middle.columns ≡ dirty.columns
    → IsMaskOf (IsWithBit (Has middle.columns) x true) after.columns → after.rows ≡ middle.rows
    → new.cells ≡ set g.cells (y * g.width + x) colour → IsTrailed g new
    → Enqueues place colour (state_of clues g dirty consistent) (state_of clues new after consistent)
cell-enqueued clues g new dirty middle after consistent place y x colour worklist hy hx at rows other columns same cells trail = record {
  later = record { puzzle = rw (trail.width, trail.height) refl; trail = trail; consistent = refl };
  cells = rw at cells;
  worklist = rw (trail.width, trail.height, cells) (place_worklist (puzzle_of clues g) g.cells dirty after (y * g.width + x)
      y x colour worklist hy hx refl (rw same rows) (rw other at columns));
}

-- the board closed after a cell is assigned is closed from there
pub enqueued-closes : (a b c : WorkspaceState) (place : ℕ) (colour : Cell) (alive : Bool) → Enqueues place colour a b
    → Closes b.board.cells alive b c → Closes (set a.board.cells place colour) alive a c
enqueued-closes a b c place colour alive assigned closes = record {
  later = later_trans a b c assigned.later closes.later;
  closed = rw (assigned.later.puzzle, assigned.cells) at closes.closed;
  clean = closes.clean;
  fixpoint = closes.fixpoint;
}

-- a guess that is alive after its conflict lines is closed from there
pub guess-closes : (a b m c : WorkspaceState) (place : ℕ) (colour : Cell) (lines : LineMasks) (alive : Bool) → Enqueues place colour a b
    → PropagatesLines lines true b m → Closes m.board.cells alive m c → Closes (set a.board.cells place colour) alive a c
guess-closes a b m c place colour lines alive assigned hinted closes = record {
  later = later_trans a b c assigned.later (later_trans b m c hinted.later closes.later);
  closed = rw (hinted.later.puzzle, assigned.later.puzzle) at closes.closed
      ∙ (rw (assigned.later.puzzle, assigned.cells) at (hinted.kept refl));
  clean = closes.clean;
  fixpoint = closes.fixpoint;
}

-- a guess that is dead after its conflict lines is dead
pub guess-dead : (a b m : WorkspaceState) (place : ℕ) (colour : Cell) (lines : LineMasks) → Enqueues place colour a b
    → PropagatesLines lines false b m → IsLater a m × (closure (lines_of a.puzzle) (set a.board.cells place colour) ≡ None)
guess-dead a b m place colour lines assigned hinted =
    (later_trans a b m assigned.later hinted.later, rw (assigned.later.puzzle, assigned.cells) at (hinted.dead refl))

-- a dead board is closed once no line is dirty
pub closes-dead : (cells : List Cell) (a b s : WorkspaceState) (none : LineMasks) → s ≡ b → IsLater a b
    → closure (lines_of a.puzzle) cells ≡ None → IsEmptyMask none → Closes cells false a (record s { dirty = none })
closes-dead cells a b s none same later dead clean = rw same (record {
  later = record { puzzle = later.puzzle; trail = later.trail; consistent = later.consistent };
  closed = sym dead;
  clean = clean;
  fixpoint = λ t. absurd (true≢false (sym t));
})
