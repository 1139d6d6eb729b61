-- Effects of assignments, and of undoing them, on the invariant of a board.
use Rattle.solve_core.proofs.Names.{◌≡◌, IsTrailed, board_of, ℕ, ◌+◌, ◌*◌, ◌<◌, ◌≤◌, inl, inr, List, [], ◌∷◌, ◌++◌, length, map, drop, ap, ◌∙◌, arith, length-append, length-map, replicate, length-replicate, drop-append-le, drop-length, cases_lt, Cell, Unknown, PartialGrid, IsSize, IsBoard, LineEntry, CellEntry, IsEntryOf, entry_on, undo_entry, undone, unknown_count, rules}
use Rattle.std.proofs.lemmas.List.{map-append}
use Rattle.solve_core.proofs.Closing.{unknown_count-le}
use Rattle.solve_core.proofs.TrailSteps.{undone-append, length-undo_entry, all_append}
use Rattle.solve_core.proofs.BranchLaws.{all_split}

-- a board with other cells and an empty trail satisfies the invariant
pub board-fresh : (most : ℕ) (g old : PartialGrid) (entries none : List LineEntry) (capacity left : ℕ) → IsBoard most old entries capacity →
    g.width ≡ old.width → g.height ≡ old.height → length g.cells ≡ length old.cells → none ≡ [] → left ≡ capacity → IsBoard most g none left
board-fresh most g old entries none capacity left b w h long t s = search (rules, unknown_count-le)

-- the cells at a checkpoint are the same if the last entry is undone first
before-last : (f : LineEntry → CellEntry) (cells : List Cell) (entries : List LineEntry) (s : LineEntry) (checkpoint : ℕ)
    → checkpoint ≤ length entries →
    undone cells (drop checkpoint (map f (entries ++ s ∷ []))) ≡ undone (undo_entry cells (f s)) (drop checkpoint (map f entries))
before-last f cells entries s checkpoint l = search (rules, map-append, drop-append-le, length-map, undone-append)

-- the trail entries and the unknown cells together are at most as many as the cells
pub board-fits : (most : ℕ) (g : PartialGrid) (entries : List LineEntry) (capacity : ℕ) → IsBoard most g entries capacity →
    length entries + unknown_count g.cells ≤ length g.cells
board-fits most g entries capacity b =
    let f = entry_on g.width g.height in
    let none : drop (length entries) (map f entries) ≡ [] = rw (← length-map entries f) (drop-length (map f entries)) in
    rw none at (b.settled (length entries) (omega arith))

-- a board with one more trail entry satisfies the invariant, if the entry assigned an unknown cell and undoing it
-- restores the old cells
pub board-assigned : (most : ℕ) (g old : PartialGrid) (entries more : List LineEntry) (s : LineEntry) (capacity left : ℕ)
    → IsBoard most old entries capacity →
    g.width ≡ old.width → g.height ≡ old.height → length g.cells ≡ length old.cells → more ≡ entries ++ s ∷ [] →
    IsEntryOf old.width old.height s → undo_entry g.cells (entry_on old.width old.height s) ≡ old.cells →
    unknown_count g.cells < unknown_count old.cells → left ≡ capacity → IsBoard most g more left
board-assigned most g old entries more s capacity left b w h long m is back fewer e =
    let f = entry_on old.width old.height in
    let full = board-fits most old entries capacity b in
    rw (w, h, m)
    (record {
      size = b.size;
      fits = b.fits;
      count = long ∙ b.count;
      entries_are = all_append (IsEntryOf old.width old.height) entries (s ∷ []) b.entries_are (is, tt);
      settled = λ checkpoint l. elim (cases_lt (length entries) checkpoint) [
        | inl last ↦
            let end : checkpoint ≡ length (map f (entries ++ s ∷ [])) =
            omega (arith, last, l, length-map (entries ++ s ∷ []) f, length-append entries (s ∷ [])) in
            rw (end, drop-length) (omega (arith, length-map (entries ++ s ∷ []) f, length-append entries (s ∷ []), full, fewer, long))
        | inr before ↦ rw (before-last f g.cells entries s checkpoint before, back, long) (b.settled checkpoint before)
      ];
      capacity_is = omega (arith, long, b.capacity_is);
    })

-- such a board is the old one with an entry appended to its trail
pub board-trailed : (g old : PartialGrid) (entries more : List LineEntry) (s : LineEntry) → g.width ≡ old.width → g.height ≡ old.height →
    more ≡ entries ++ s ∷ [] → undo_entry g.cells (entry_on old.width old.height s) ≡ old.cells
    → unknown_count g.cells < unknown_count old.cells →
    IsTrailed (board_of old entries) (board_of g more)
board-trailed g old entries more s w h m back fewer = record {
  added = entry_on old.width old.height s ∷ [];
  width = w;
  height = h;
  kept = rw (w, h, m) (map-append (entry_on old.width old.height) entries (s ∷ []));
  undo = back;
  count = omega arith;
}

-- the last trail entry is one of the grid's lines
pub last_entry : (most : ℕ) (g : PartialGrid) (entries less : List LineEntry) (s : LineEntry) (capacity : ℕ) → entries ≡ less ++ s ∷ [] →
    IsBoard most g entries capacity → IsEntryOf g.width g.height s
last_entry most g entries less s capacity t b = (all_split (IsEntryOf g.width g.height) less s (rw t at b.entries_are)).0

-- a board with its last trail entry undone satisfies the invariant
pub board-undone : (most : ℕ) (g old : PartialGrid) (entries less : List LineEntry) (s : LineEntry) (capacity left : ℕ)
    → IsBoard most old entries capacity →
    entries ≡ less ++ s ∷ [] → g ≡ record old { cells = undo_entry old.cells (entry_on old.width old.height s) } → left ≡ capacity →
    IsBoard most g less left
board-undone most g old entries less s capacity left b t e l =
    let f = entry_on old.width old.height in
    let long = length-undo_entry old.cells (f s) in
    let more : length entries ≡ length less + 1 = ap length t ∙ length-append less (s ∷ []) in
    rw e
    (record {
      size = b.size;
      fits = b.fits;
      count = long ∙ b.count;
      entries_are = (all_split (IsEntryOf old.width old.height) less s (rw t at b.entries_are)).1;
      settled = λ checkpoint k. rw (long, ← before-last f old.cells less s checkpoint k, ← t) (b.settled checkpoint (omega arith));
      capacity_is = omega (arith, long, b.capacity_is);
    })

-- an unknown board with an empty trail satisfies the invariant
pub board-unknown : (most capacity : ℕ) (g : PartialGrid) (entries : List LineEntry) → IsSize g.width g.height
    → (g.width ≤ most) × (g.height ≤ most) → g.cells ≡ replicate (g.width * g.height) Unknown → entries ≡ [] → length g.cells ≤ capacity
    → IsBoard most g entries capacity
board-unknown most capacity g entries size fits unknown none l =
    let count : length g.cells ≡ g.width * g.height = ap length unknown ∙ length-replicate (g.width * g.height) Unknown in
    search (rules, unknown_count-le)
