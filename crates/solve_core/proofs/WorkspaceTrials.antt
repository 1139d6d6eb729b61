-- Effects of the steps of trials on the state of a workspace.
use Rattle.solve_core.proofs.Names.{true≢false, ◌≡◌, ◌≢◌, ◌∙◌, ◌+◌, ◌*◌, ◌/◌, ◌%◌, ◌<◌, inl, inr, ℕ, Bool, false, true, List, None, Some, length, set, drop, take, refl, sym, ap, arith, cases_lt, div-mul-add, mod-mul-add, drop-append_seam, take-append_seam, Cell, Filled, Blank, lines_of, round, trials, HasNoRefutedColour, TrailedGrid, ColourMasks, LineMasks, IsTrailed, cells_before, AtMost, AreConsistent, Dead, Unchanged, Changed, Closes, IsAtFixpoint, IsWorkspace, WorkspaceState, state_of, ClosesUnderTrials, IsReadyForTrial, LeavesBoard, Tries, rules}
use Rattle.solve_core.specs.declared.solving.propagation.Effect.{Effect}
use Rattle.grid_core.specs.Lines.{IsUnknownCell}
use Rattle.solve_core.specs.steps.ConsistentColours.{AreBothRecorded, AreRecordedFrom, IsRecorded}
use Rattle.solve_core.specs.steps.Trails.{CanAssign}
use Rattle.solve_core.proofs.GridSteps.{closed_fixpoint, fixpoint_closed}
use Rattle.solve_core.proofs.WorkspaceSteps.{steps-then, then}
use Rattle.solve_core.proofs.TrailSteps.{length-undone}
use Rattle.solve_core.proofs.TrialSteps.{assign-changed, assign-dead, closure_below, closure_trials, tried_ends}

-- assigning the colour that is left is a step towards the grid closed under trials
pub assigns-other : (s new : WorkspaceState) (place : ℕ) (colour : Cell) (consistent : List ColourMasks)
    → CanAssign s.board.cells place colour
    → AtMost (Some (set s.board.cells place colour)) (trials (lines_of s.puzzle) s.board.cells)
    → Closes (set s.board.cells place colour) true s new → AreConsistent new.puzzle consistent new.board.cells
    → Tries Changed s (record new { consistent = consistent })
assigns-other s new place colour consistent can below closes are = record {
  puzzle = closes.later.puzzle;
  effect_is = assign-changed (lines_of s.puzzle) s.board.cells new.board.cells place colour can.within can.unknown can.known below
      (sym closes.closed);
  ready = λ n. record {
    fixpoint = record { worklist = (closes.fixpoint refl).worklist; clean = (closes.fixpoint refl).clean };
    consistent = are;
  };
}

-- if the board is dead with the colour that is left, it is dead
pub dead-other : (s new : WorkspaceState) (place : ℕ) (colour : Cell) → CanAssign s.board.cells place colour
    → AtMost (Some (set s.board.cells place colour)) (trials (lines_of s.puzzle) s.board.cells)
    → Closes (set s.board.cells place colour) false s new → Tries Dead s new
dead-other s new place colour can below closes = record {
  puzzle = closes.later.puzzle;
  effect_is = assign-dead (lines_of s.puzzle) s.board.cells place colour can.unknown below (sym closes.closed);
  ready = λ n. absurd (n refl);
}

-- undoing what a step assigned restores the board
pub undoes : (old new : TrailedGrid) (n : ℕ) → n ≡ length old.trail → IsTrailed old new
    → record new { cells = cells_before new.cells new.trail n; trail = take n new.trail } ≡ old
undoes old new n e t =
    let cells : cells_before new.cells new.trail (length old.trail) ≡ old.cells = rw (t.kept, drop-append_seam old.trail t.added) t.undo in
    let trail : take (length old.trail) new.trail ≡ old.trail = rw t.kept (take-append_seam old.trail t.added) in
    rw e (λ i. record { width = t.width i; height = t.height i; cells = cells i; trail = trail i })

-- undoing keeps what is always true of a workspace
pub workspace-undone : (most : ℕ) (clues : List (List ℕ)) (g : TrailedGrid) (dirty : LineMasks) (old new : List ColourMasks) (n : ℕ)
    → IsWorkspace most (state_of clues g dirty old) → length new ≡ length old
    → IsWorkspace most (state_of clues (record g { cells = cells_before g.cells g.trail n; trail = take n g.trail }) dirty new)
workspace-undone most clues g dirty old new n is same = record {
  puzzle = is.puzzle;
  fits = is.fits;
  board = (refl, refl, length-undone g.cells (drop n g.trail) ∙ is.board.2);
  rows = same ∙ is.rows;
}

-- a trial that is undone leaves the board as it was, at its fixpoint
pub leaves-board : (s tried after : WorkspaceState) (alive : Bool) (cells : List Cell) → IsAtFixpoint s → Closes cells alive s tried
    → after.puzzle ≡ s.puzzle → after.board ≡ s.board → after.dirty ≡ tried.dirty → AreConsistent s.puzzle after.consistent s.board.cells
    → LeavesBoard s after
leaves-board s tried after alive cells fixpoint closes puzzle board dirty consistent = record {
  puzzle = puzzle;
  board = board;
  ready = record {
    fixpoint = closed_fixpoint after (rw puzzle fixpoint.worklist.puzzle) (rw (puzzle, board) fixpoint.worklist.size)
        (rw (puzzle, board) (fixpoint_closed s fixpoint)) (rw dirty closes.clean);
    consistent = rw (puzzle, board) consistent;
  };
}

-- two steps of trials are one
pub tries-then : (first second : Effect) (a b c : WorkspaceState) → first ≢ Dead → Tries first a b → Tries second b c
    → Tries (then first second) a c
tries-then first second a b c alive x y = record {
  puzzle = y.puzzle ∙ x.puzzle;
  effect_is = steps-then (trials (lines_of a.puzzle)) first second a.board.cells b.board.cells c.board.cells alive x.effect_is
      (rw x.puzzle at y.effect_is);
  ready = λ n. y.ready (λ e. n (rw e refl));
}

-- one more colour can be recorded if it isn't refuted
pub adds-consistent : (s a : WorkspaceState) (consistent : List ColourMasks) → a ≡ s → IsReadyForTrial s
    → AreConsistent s.puzzle consistent s.board.cells → LeavesBoard s (record a { consistent = consistent })
adds-consistent s a consistent same ready are = rw same (record {
  puzzle = refl;
  board = refl;
  ready = record { fixpoint = record { worklist = ready.fixpoint.worklist; clean = ready.fixpoint.clean }; consistent = are };
})

-- a colour that is recorded at the column and the row of a cell is recorded at the cell
pub recorded-at : (rows : List ColourMasks) (w place y x : ℕ) (colour : Cell) → x < w → place ≡ y * w + x → IsRecorded rows x y colour
    → IsRecorded rows (place % w) (place / w) colour
recorded-at rows w place y x colour l at is = rw (at, mod-mul-add y w x l, div-mul-add y w x l) is

-- no colour that is recorded is refuted
known-consistent : (s : WorkspaceState) (k : ℕ) → IsReadyForTrial s → k < length s.board.cells
    → (IsUnknownCell s.board.cells k → AreBothRecorded s.consistent (k % s.puzzle.width) (k / s.puzzle.width))
    → HasNoRefutedColour (lines_of s.puzzle) s.board.cells k
known-consistent s k ready l both unknown =
    let recorded = both (l, unknown) in (
      ready.consistent.each k Filled (record { within = l; unknown = unknown; known = refl }) recorded.0,
      ready.consistent.each k Blank (record { within = l; unknown = unknown; known = refl }) recorded.1,
    )

-- after a cell was tried, none up to it has a refuted colour
pub tried-more : (s : WorkspaceState) (from place : ℕ) → IsReadyForTrial s → place < length s.board.cells
    → ((k : ℕ) → k < from → HasNoRefutedColour (lines_of s.puzzle) s.board.cells k)
    → AreRecordedFrom s.consistent s.puzzle.width s.board.cells from (Some place)
    → HasNoRefutedColour (lines_of s.puzzle) s.board.cells place
    → (k : ℕ) → k < place + 1 → HasNoRefutedColour (lines_of s.puzzle) s.board.cells k
tried-more s from place ready l before passed here k lk = elim (cases_lt k from) [
  | inl early ↦ before k early
  | inr late ↦ elim (cases_lt k place) [
    | inl passed_by ↦ known-consistent s k ready (omega (arith, l, passed_by)) (passed k late passed_by)
    | inr at ↦ (let same : k ≡ place = omega (arith, lk, at) in rw same here)
  ]
]

-- if no cell is left to try, none has a refuted colour
pub tried-rest : (s : WorkspaceState) (from : ℕ) → IsReadyForTrial s
    → ((k : ℕ) → k < from → HasNoRefutedColour (lines_of s.puzzle) s.board.cells k)
    → AreRecordedFrom s.consistent s.puzzle.width s.board.cells from None
    → (k : ℕ) → k < length s.board.cells → HasNoRefutedColour (lines_of s.puzzle) s.board.cells k
tried-rest s from ready before passed k lk = elim (cases_lt k from) [
  | inl early ↦ before k early
  | inr late ↦ known-consistent s k ready lk (passed k late)
]

-- a pass of trials that changes nothing ends them
pub tries-end : (s a b : WorkspaceState) → a.puzzle ≡ s.puzzle
    → trials (lines_of s.puzzle) a.board.cells ≡ trials (lines_of s.puzzle) s.board.cells → Tries Unchanged a b
    → ((k : ℕ) → k < length b.board.cells → HasNoRefutedColour (lines_of a.puzzle) b.board.cells k) → ClosesUnderTrials true s b
tries-end s a b puzzle same step tried =
    let ready = step.ready (λ e. cc) in
    let closed : round (lines_of s.puzzle) b.board.cells ≡ Some b.board.cells =
    rw (step.puzzle, puzzle) at (fixpoint_closed b ready.fixpoint) in
    record {
      puzzle = step.puzzle ∙ puzzle;
      tried = sym (tried_ends (lines_of s.puzzle) b.board.cells closed (rw puzzle at tried))
          ∙ ap (trials (lines_of s.puzzle)) step.effect_is ∙ same;
      fixpoint = λ t. ready.fixpoint;
    }

-- trials of the closed board yield the same as trials of the board
pub closes-tried : (s a b : WorkspaceState) (alive : Bool) → Closes s.board.cells true s a → ClosesUnderTrials alive a b
    → ClosesUnderTrials alive s b
closes-tried s a b alive closes tried = record {
  puzzle = tried.puzzle ∙ closes.later.puzzle;
  tried = rw closes.later.puzzle at tried.tried ∙ closure_trials (lines_of s.puzzle) s.board.cells a.board.cells (sym closes.closed);
  fixpoint = tried.fixpoint;
}

-- if the closure is dead, so are trials
pub dead-tried : (s a : WorkspaceState) → Closes s.board.cells false s a → ClosesUnderTrials false s a
dead-tried s a closes = record {
  puzzle = closes.later.puzzle;
  tried = search (rules, closure_below, closes.closed);
  fixpoint = λ t. absurd (true≢false (sym t));
}
