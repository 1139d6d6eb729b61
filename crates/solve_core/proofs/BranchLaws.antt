-- The branches of a search, and how assignments, a filled guess and a blank guess change them.
use Rattle.solve_core.proofs.Names.{◌≡◌, ℕ, zero, suc, ◌+◌, ◌<◌, ◌≤◌, List, [], ◌∷◌, ◌++◌, length, set, take, drop, refl, sym, ap, ◌∙◌, arith, length-append, append-nil, append_assoc, Option, Some, None, AllByRecursion, drop-length, drop-append-le, length-take-le, take-append-drop, Cell, Filled, Blank, GridLine, lines_of, Branch, Guess, events, CellEntry, TrailedGrid, undone, IsTrailed, cells_before, IsNext, IsBranch, AreInOrder, AreBefore, AreBranchesOf, pending, events_from_cell, events_from_guess, ColourMasks, LineMasks, TakesGuess, IsBoardOf, IsWorkspace, WorkspaceState, state_of, rules}
use Rattle.solve_core.proofs.TrailSteps.{undone-append, all_append, length-undone}

drop_take : {X : Type 0} (m n : ℕ) (xs : List X) → m ≤ n → drop m (take n xs) ++ drop n xs ≡ drop m xs
drop_take zero n xs h = take-append-drop n xs
drop_take (suc m) zero xs h = absurd (omega arith)
drop_take (suc m) (suc n) [] h = refl
drop_take (suc m) (suc n) (x ∷ xs) h = drop_take m n xs (omega arith)

-- the board after undoing to `checkpoint`
abbrev pub undone_board : TrailedGrid → ℕ → TrailedGrid
undone_board g checkpoint = record g { cells = cells_before g.cells g.trail checkpoint; trail = take checkpoint g.trail }

-- undoing to `checkpoint` doesn't change the cells at an earlier checkpoint
pub before_back : (cells : List Cell) (trail : List CellEntry) (earlier checkpoint : ℕ) → earlier ≤ checkpoint
    → cells_before (cells_before cells trail checkpoint) (take checkpoint trail) earlier ≡ cells_before cells trail earlier
before_back cells trail earlier checkpoint h =
    sym (undone-append cells (drop earlier (take checkpoint trail)) (drop checkpoint trail))
    ∙ ap (undone cells) (drop_take earlier checkpoint trail h)

-- undoing to the trail's whole length changes nothing
before-now : (cells : List Cell) (trail : List CellEntry) → cells_before cells trail (length trail) ≡ cells
before-now cells trail = ap (undone cells) (drop-length trail)

pub before-more : (limit more : ℕ) (branches : List Branch) → limit ≤ more → AreBefore limit branches → AreBefore more branches
before-more limit more [] l h = tt
before-more limit more (b ∷ branches) l h = (omega (arith, h.0), before-more limit more branches l h.1)

-- a property of all items of a list ending with `x` holds of `x` and of all items before it
pub all_split : {X : Type 0} (P : X → Type 0) (xs : List X) (x : X) → AllByRecursion P (xs ++ (x ∷ [])) → P x × AllByRecursion P xs
all_split P [] x k = (k.0, tt)
all_split P (y ∷ xs) x k = let r = all_split P xs x k.1 in (r.0, (k.0, r.1))

-- the last one of ordered branches was made after all others, which are in order
order-last : (branches : List Branch) (last : Branch) → AreInOrder (branches ++ (last ∷ [])) →
    AreBefore last.checkpoint branches × AreInOrder branches
order-last [] last h = (tt, tt)
order-last (b ∷ branches) last h =
    let rest = order-last branches last h.1 in
    let split = all_split (λ (later : Branch). b.checkpoint < later.checkpoint) branches last h.0 in
    ((split.0, rest.0), (split.1, rest.1))

order-more : (branches : List Branch) (last : Branch) → AreInOrder branches → AreBefore last.checkpoint branches →
    AreInOrder (branches ++ (last ∷ []))
order-more [] last h k = (tt, tt)
order-more (b ∷ branches) last h k = search (rules, all_append, (order-more branches last h.1 k.1))

-- ordered branches whose checkpoints are between `first` and `limit` are fewer than `limit - first`
order-count : (limit first : ℕ) (branches : List Branch) → AreInOrder branches → AreBefore limit branches →
    AllByRecursion (λ (b : Branch). first < b.checkpoint) branches → first < limit → first + length branches < limit
order-count limit first [] h k m l = omega arith
order-count limit first (b ∷ branches) h k m l = omega (arith, m.0, order-count limit b.checkpoint branches h.1 k.1 h.0 k.0)

-- ordered branches whose checkpoints are below `limit` are at most `limit`
pub branch-count : (limit : ℕ) (branches : List Branch) → AreInOrder branches → AreBefore limit branches → length branches ≤ limit
branch-count limit [] h k = omega arith
branch-count limit (b ∷ branches) h k = omega (arith, order-count limit b.checkpoint branches h.1 k.1 h.0 k.0)

module _ (pick : List Cell → Option ℕ) (lines : List GridLine) where
  -- the branches owe the same events on another board, if the cells at each checkpoint are the same
  module _ (cells now : List Cell) (trail after : List CellEntry) (limit : ℕ)
      (same : (checkpoint : ℕ) → checkpoint < limit → cells_before now after checkpoint ≡ cells_before cells trail checkpoint) where
    pending-same : (branches : List Branch) → AreBefore limit branches →
        pending pick lines now after branches ≡ pending pick lines cells trail branches
    pending-same [] h = refl
    pending-same (b ∷ branches) h = rw (pending-same branches h.1, same b.checkpoint h.0) refl

    branches-same : (branches : List Branch) → AreBefore limit branches → AllByRecursion (IsBranch pick lines cells trail) branches →
        AllByRecursion (IsBranch pick lines now after) branches
    branches-same [] h k = tt
    branches-same (b ∷ branches) h k = (rw (same b.checkpoint h.0) k.0, branches-same branches h.1 k.1)

  -- the branches stay valid when cells are assigned
  pub trailed-work : (old new : TrailedGrid) (branches : List Branch) → IsTrailed old new →
      AreBranchesOf pick lines old.cells old.trail branches → AreBranchesOf pick lines new.cells new.trail branches
  trailed-work old new branches t w = search (rules, before-more, length-append, branches-same, drop-append-le, undone-append)

  -- the branches owe the same events after cells are assigned
  pub trailed-pending : (old new : TrailedGrid) (branches : List Branch) → IsTrailed old new →
      AreBranchesOf pick lines old.cells old.trail branches →
      pending pick lines new.cells new.trail branches ≡ pending pick lines old.cells old.trail branches
  trailed-pending old new branches t w = search (rules, pending-same, drop-append-le, undone-append)

  pending-last : (cells : List Cell) (trail : List CellEntry) (branches : List Branch) (b : Branch) →
      pending pick lines cells trail (branches ++ (b ∷ [])) ≡ Guess ∷
      (events pick lines (set (cells_before cells trail b.checkpoint) b.place Blank) ++ pending pick lines cells trail branches)
  pending-last cells trail [] b = rw append-nil refl
  pending-last cells trail (x ∷ branches) b = rw (pending-last cells trail branches b, append_assoc) refl

  module _ (cells : List Cell) (trail : List CellEntry) (branches made : List Branch) (b : Branch) (e : made ≡ branches ++ (b ∷ []))
      (m : b.checkpoint ≡ length trail) where
    -- after a filled guess the branches with its branch appended are valid
    fork-work : AreBranchesOf pick lines cells trail branches → AreBefore (length trail) branches → IsNext pick lines cells b.place →
        AreBranchesOf pick lines cells trail made
    fork-work w older n = search (rules, all_append, order-more, made, before-now)

    -- the two guesses of a cell are the filled one, made now, and the blank one, owed by the new last branch
    fork-events : events_from_cell pick lines cells (Some b.place) (pending pick lines cells trail branches) ≡
        events_from_guess pick lines cells (Some (b.place, Filled)) (pending pick lines cells trail made)
    fork-events = rw (e, pending-last cells trail branches b, m, before-now cells trail) refl

  module _ (cells now : List Cell) (trail after : List CellEntry) (all rest : List Branch) (b : Branch) (e : all ≡ rest ++ (b ∷ []))
      (f : now ≡ cells_before cells trail b.checkpoint) (g : after ≡ take b.checkpoint trail)
      (w : AreBranchesOf pick lines cells trail all) where
    -- the other branches have earlier checkpoints than the last one, and are in order
    last : AreBefore b.checkpoint rest × AreInOrder rest
    last = order-last rest b (rw e at w.order)

    made : IsBranch pick lines cells trail b × AllByRecursion (IsBranch pick lines cells trail) rest
    made = all_split (IsBranch pick lines cells trail) rest b (rw e at w.made)

    same : (checkpoint : ℕ) → checkpoint < b.checkpoint → cells_before now after checkpoint ≡ cells_before cells trail checkpoint
    same checkpoint h = rw (f, g) (before_back cells trail checkpoint b.checkpoint (omega arith))

    -- after undoing to the last branch's checkpoint, the other branches are valid
    back-work : AreBranchesOf pick lines now after rest
    back-work = search (rules, all_split, length-take-le, before-more, last, made, branches-same, same)

    -- the events owed by all branches are the last one's blank guess, made now, and those owed by the others
    back-events : pending pick lines cells trail all
        ≡ events_from_guess pick lines now (Some (b.place, Blank)) (pending pick lines now after rest)
    back-events = rw (e, pending-last cells trail rest b, pending-same cells now trail after b.checkpoint same rest last.0, f) refl

    -- after undoing to the last branch's checkpoint, its cell is the next one to be guessed
    back-ready : IsNext pick lines now b.place
    back-ready = rw f made.0

module _ (old : WorkspaceState) (before after : List Branch) (b : Branch) where
  -- pushing the branch of a cell takes the cell's filled guess
  pub fork-TakesGuess : IsBoardOf old.puzzle old.board → after ≡ before ++ (b ∷ []) → b.checkpoint ≡ length old.board.trail →
      TakesGuess old before (Some b.place) old after (Some (b.place, Filled))
  fork-TakesGuess board made at =
      let lines = lines_of old.puzzle in
      record {
        puzzle = refl;
        size = board.2;
        dirty = refl;
        events_are = λ pick w. fork-events pick lines old.board.cells old.board.trail before after b made at;
        work = λ pick u. fork-work pick lines old.board.cells old.board.trail before after b made at u.work u.older u.next_cell;
        ready = λ pick u. u.next_cell;
      }

  -- popping the last branch and undoing to its checkpoint takes the blank guess of its cell
  pub back-TakesGuess : (new : WorkspaceState) → IsBoardOf new.puzzle new.board → before ≡ after ++ (b ∷ []) →
      new ≡ record old { board = undone_board old.board b.checkpoint } →
      TakesGuess old before None new after (Some (b.place, Blank))
  back-TakesGuess new board last is =
      let lines = lines_of old.puzzle in
      let cells = ap (λ (s : WorkspaceState). s.board.cells) is in
      let trail = ap (λ (s : WorkspaceState). s.board.trail) is in
      record {
        puzzle = ap (λ (s : WorkspaceState). s.puzzle) is;
        size = board.2;
        dirty = ap (λ (s : WorkspaceState). s.dirty) is;
        events_are = λ pick w. back-events pick lines _ _ _ _ before after b last cells trail w;
        work = λ pick u. back-work pick lines _ _ _ _ before after b last cells trail u.work;
        ready = λ pick u. back-ready pick lines _ _ _ _ before after b last cells trail u.work;
      }

-- undoing doesn't break what is always true of a workspace
pub undone-IsWorkspace : (most : ℕ) (clues : List (List ℕ)) (old new : TrailedGrid) (dirty : LineMasks) (consistent : List ColourMasks)
    (checkpoint : ℕ) → new ≡ undone_board old checkpoint → IsWorkspace most (state_of clues old dirty consistent) →
    IsWorkspace most (state_of clues new dirty consistent)
undone-IsWorkspace most clues old new dirty consistent checkpoint is h = rw is (record {
  puzzle = h.puzzle;
  fits = h.fits;
  board = (h.board.0, h.board.1, length-undone old.cells (drop checkpoint old.trail) ∙ h.board.2);
  rows = h.rows;
})
