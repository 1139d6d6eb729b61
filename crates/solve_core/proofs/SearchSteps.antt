-- The events after a guess, and the cell of the next guess.
use Rattle.solve_core.proofs.Names.{◌≡◌, ◌≢◌, ℕ, ◌+◌, ◌-◌, ◌<◌, ◌≤◌, List, [], ◌∷◌, ◌++◌, append-nil, length, get_or, set, refl, sym, ap, ◌∙◌, arith, Option, Some, None, IfSome, true, false, get_or-set_other, cases_lt, position-Some, Cell, Unknown, Filled, is_unknown, is_known, Extends, GridLine, IsNonogram, Nonogram, lines_of, round, closure, Event, Guess, Branch, IsPick, search_from, guess_at, events, first_unknown, unknown_count, AreKnownBefore, IsClosed, IsNext, IsNextCell, AreFound, Closes, FindsNext, GoesOn, Guesses, HasRoom, IsAtFixpoint, IsEmptyMask, IsUnderWay, TakesGuess, WorkspaceState, ending, owed, owed_by, Extends-at, IsUnknownFrom, rules}
use Rattle.solve_core.specs.steps.FoundGrids.{FoundGrids}
use Rattle.grid_core.proofs.FirstUnknown.{position_none, position_some}
use Rattle.solve_core.proofs.BranchLaws.{before-more, trailed-pending, trailed-work}
use Rattle.solve_core.proofs.Closing.{repeat-fixed}
use Rattle.solve_core.proofs.ClosureLaws.{closure-IsLeastClosed}
use Rattle.solve_core.proofs.GridSteps.{closed_fixpoint, fixpoint_closed}
use Rattle.solve_core.proofs.ReportLaws.{ending-next}
use Rattle.solve_core.proofs.SearchLaws.{events-unfold, same_known, unknown_is, unknown_count-more}
use Rattle.solve_core.proofs.TrailSteps.{count-settled, trailed-longer}

-- the events after a guess are those from the closure of its grid; none if the closure is dead
pub closed-events : (pick : List Cell → Option ℕ) (lawful : IsPick pick) (lines : List GridLine) (g : List Cell) (o : Option (List Cell))
    (rest : List Event) → o ≡ closure lines g → search_from pick (events pick lines) o ++ rest ≡ events pick lines g ++ rest
closed-events pick lawful lines g o rest closed = search (rules, events-unfold)

-- line-closed cells are their own closure
pub closed-closure : (lines : List GridLine) (cells : List Cell) → IsClosed lines cells → closure lines cells ≡ Some cells
closed-closure lines cells h = repeat-fixed (round lines) (length cells + 1) cells h

-- the cell of the next guess is unknown
pub next-unknown : (pick : List Cell → Option ℕ) (lawful : IsPick pick) (lines : List GridLine) (cells : List Cell) (k : ℕ) →
    IsNext pick lines cells k → (k < length cells) × (get_or cells k Unknown ≡ Unknown)
next-unknown pick lawful lines cells k h = let at = lawful.within cells k h.0 in (at.0, unknown_is (get_or cells k Unknown) at.1)

-- if a cell is unknown, the number of unknown cells is positive
pub unknown_count-positive : (cells : List Cell) (k : ℕ) → k < length cells → get_or cells k Unknown ≡ Unknown → 0 < unknown_count cells
unknown_count-positive cells k l e = omega (arith, count-settled cells k Filled l e refl)

-- the cell to guess, if there is one, is unknown
pub cell-unknown : (pick : List Cell → Option ℕ) (lawful : IsPick pick) (lines : List GridLine) (cells : List Cell) (next : Option ℕ) →
    IsNextCell pick lines cells next → IfSome next (λ place. (place < length cells) × (get_or cells place Unknown ≡ Unknown))
cell-unknown pick lawful lines cells next h = search (rules, next-unknown)

-- the closure after an unknown cell is assigned has fewer unknown cells
pub alive-fewer : (lines : List GridLine) (cells now : List Cell) (k : ℕ) (c : Cell) → k < length cells → get_or cells k Unknown ≡ Unknown →
    is_known c ≡ true → Some now ≡ closure lines (set cells k c) → unknown_count now < unknown_count cells
alive-fewer lines cells now k c l e known closed =
    let above : Extends (set cells k c) now = rw (sym closed) at ((closure-IsLeastClosed lines (set cells k c)).above) in
    omega (arith, count-settled cells k c l e known, unknown_count-more (set cells k c) now above)

-- the cells before the first unknown one are known in the closure after that one is assigned
pub known-before : (lines : List GridLine) (cells now : List Cell) (place : ℕ) (c : Cell) → first_unknown cells ≡ Some place →
    Some now ≡ closure lines (set cells place c) → AreKnownBefore place now
known-before lines cells now place c first closed k l =
    let above : Extends (set cells place c) now = rw (sym closed) at ((closure-IsLeastClosed lines (set cells place c)).above) in
    let other : k ≢ place = omega arith in
    let before : is_unknown (get_or (set cells place c) k Unknown) ≡ false =
    rw get_or-set_other ((position-Some is_unknown cells place Unknown first).2 k l) in
    rw (same_known (get_or (set cells place c) k Unknown) (get_or now k Unknown) before (Extends-at (set cells place c) now k above)) before

-- if all cells before `start` are known, the first unknown cell from `start` on is the first of all
pub first_from : (cells seen : List Cell) (start : ℕ) (found : Option ℕ) → seen ≡ cells → AreKnownBefore start cells →
    IsUnknownFrom seen start found → found ≡ first_unknown cells
first_from cells seen start found e before h = search (rules, position_none, cases_lt, position_some)

module _ (pick : List Cell → Option ℕ) (lawful : IsPick pick) (place : ℕ) (colour : Cell) (old new : WorkspaceState) where
  abbrev p : Nonogram
  p = old.puzzle

  abbrev lines : List GridLine
  lines = lines_of p

  abbrev given : List Cell
  given = set old.board.cells place colour

  -- after a dead guess only the events of the branches are owed
  pub dead-Guesses : (found : FoundGrids) → Closes given false old new → HasRoom p found →
      Guesses pick place colour old found new found None
  dead-Guesses found dead room = record {
    puzzle = dead.later.puzzle;
    clean = dead.clean;
    found = record { size = room.size; most = omega (arith, room.few) };
    goes_on = λ branches w.
        let same = trailed-pending pick lines old.board new.board branches dead.later.trail w
        ∙ closed-events pick lawful lines given None (owed_by pick p branches old.board) dead.closed in
        record {
          under_way = record { work = trailed-work pick lines old.board new.board branches dead.later.trail w; older = tt; next_cell = tt };
          ends = λ spent left. ap (ending p found.grids spent left) same;
          fewer = omega (arith, ap length same);
        };
  }

  -- after a guess whose closure is alive, the events at its closed cells are owed first
  pub alive-Guesses : (before after : FoundGrids) (next : Option ℕ) → IsNext pick lines old.board.cells place → is_known colour ≡ true →
      Closes given true old new → FindsNext pick p new.board.cells before after next →
      Guesses pick place colour old before new after next
  alive-Guesses before after next is known alive finds = record {
    puzzle = alive.later.puzzle;
    clean = alive.clean;
    found = finds.found;
    goes_on = λ branches w.
        let trail = alive.later.trail in
        let at = next-unknown pick lawful lines old.board.cells place is in
        let same : guess_at (events pick lines) new.board.cells (pick new.board.cells) ++ owed_by pick p branches new.board
        ≡ events pick lines given ++ owed_by pick p branches old.board =
        closed-events pick lawful lines given (Some new.board.cells) (owed_by pick p branches new.board) alive.closed
        ∙ ap (λ es. events pick lines given ++ es) (trailed-pending pick lines old.board new.board branches trail w) in
        let longer = trailed-longer old.board new.board trail (alive-fewer lines old.board.cells new.board.cells place colour at.0 at.1
        known alive.closed) in
        record {
          under_way = record {
            work = trailed-work pick lines old.board new.board branches trail w;
            older = search (rules, before-more, longer);
            next_cell = finds.next_cell ((closure-IsLeastClosed lines given).closed new.board.cells (sym alive.closed));
          };
          ends = λ spent left. finds.ends spent left (owed_by pick p branches new.board) ∙ ap (ending p before.grids spent left) same;
          fewer = omega (arith, finds.fewer (owed_by pick p branches new.board), ap length same);
        };
  }

-- The search has come from the state `start` to the state `s`: with the solutions found, the guesses spent and the events owed it
-- ends as the whole search does.
pub record IsSearching
    (pick : List Cell → Option ℕ) (start : WorkspaceState) (limit : ℕ) (s : WorkspaceState) (branches : List Branch) (found : FoundGrids)
    (next : Option ℕ) (spent : ℕ) : Type 0 where
  pub puzzle : s.puzzle ≡ start.puzzle
  pub clean : IsEmptyMask s.dirty
  pub found_are : AreFound start.puzzle found
  pub under_way : IsUnderWay pick start.puzzle branches s.board next
  pub ends : ending start.puzzle found.grids spent (limit - spent) (owed pick start.puzzle branches s.board next)
      ≡ ending start.puzzle [] 0 limit (events pick (lines_of start.puzzle) start.board.cells)
  pub within : spent ≤ limit

module _ (pick : List Cell → Option ℕ) (lawful : IsPick pick) (start : WorkspaceState) (limit : ℕ) where
  abbrev of_puzzle : List GridLine
  of_puzzle = lines_of start.puzzle

  -- the search begins when the first cell to guess was looked for
  pub search-starts : (before after : FoundGrids) (next : Option ℕ) → IsAtFixpoint start → before.grids ≡ [] →
      FindsNext pick start.puzzle start.board.cells before after next → IsSearching pick start limit start [] after next 0
  search-starts before after next fixpoint none finds =
      let cells = start.board.cells in
      let closed = fixpoint_closed start fixpoint in
      let all : limit - 0 ≡ limit = omega arith in
      record {
        puzzle = refl;
        clean = fixpoint.clean;
        found_are = finds.found;
        under_way = record {
          work = record { before = tt; order = tt; made = tt };
          older = search rules;
          next_cell = finds.next_cell closed;
        };
        ends = ap (λ n. ending start.puzzle after.grids 0 n (owed pick start.puzzle [] start.board next)) all
            ∙ finds.ends 0 limit []
            ∙ ap (ending start.puzzle before.grids 0 limit)
            (closed-events pick lawful of_puzzle cells (Some cells) [] (sym (closed-closure of_puzzle cells closed))
            ∙ append-nil (events pick of_puzzle cells))
            ∙ ap (λ gs. ending start.puzzle gs 0 limit (events pick of_puzzle cells)) none;
        within = omega arith;
      }

  module _ (s t : WorkspaceState) (branches rest : List Branch) (found : FoundGrids) (next : Option ℕ) (place : ℕ) (colour : Cell)
      (spent : ℕ) (kept : IsSearching pick start limit s branches found next spent)
      (taken : TakesGuess s branches next t rest (Some (place, colour))) where
    same : t.puzzle ≡ start.puzzle
    same = taken.puzzle ∙ kept.puzzle

    abbrev after_guess : List Event
    after_guess = events pick of_puzzle (set t.board.cells place colour)

    -- the cell of the guess that was taken is the next one to be guessed
    pub taken-IsNext : IsNext pick of_puzzle t.board.cells place
    taken-IsNext = (rw kept.puzzle at taken.ready) pick kept.under_way

    -- the guess is taken on a board at its fixpoint
    pub taken-IsAtFixpoint : IsNonogram start.puzzle → IsAtFixpoint t
    taken-IsAtFixpoint is = closed_fixpoint t (rw same is) taken.size (rw same (taken-IsNext.1)) (rw taken.dirty kept.clean)

    taken-owed : owed pick start.puzzle branches s.board next ≡ Guess ∷ (after_guess ++ owed_by pick start.puzzle rest t.board)
    taken-owed = (rw kept.puzzle at taken.events_are) pick kept.under_way.work

    module _ (u : WorkspaceState) (more : FoundGrids) (later : Option ℕ) (rule : List Cell → Option ℕ) (is : rule ≡ pick)
        (given : Guesses rule place colour t found u more later) where
      guessed : Guesses pick place colour t found u more later
      guessed = rw is at given

      on : GoesOn pick start.puzzle after_guess rest t.board found.grids u.board more.grids later
      on = (rw same at guessed.goes_on) rest ((rw kept.puzzle at taken.work) pick kept.under_way)

      -- a guess within the limit goes on with the search
      pub search-continues : length found.grids < 2 → spent < limit → IsSearching pick start limit u rest more later (spent + 1)
      search-continues few less = record {
        puzzle = guessed.puzzle ∙ same;
        clean = guessed.clean;
        found_are = rw same at guessed.found;
        under_way = on.under_way;
        ends = ending-next start.puzzle found.grids more.grids spent limit _ (owed pick start.puzzle branches s.board next)
            (after_guess ++ owed_by pick start.puzzle rest t.board) (owed pick start.puzzle rest u.board later)
            taken-owed few less kept.ends on.ends;
        within = omega (arith, less);
      }

      -- a guess leaves fewer events owed
      pub search-shrinks : length (owed pick start.puzzle rest u.board later) < length (owed pick start.puzzle branches s.board next)
      search-shrinks = omega (arith, on.fewer, ap length taken-owed)
