-- Effects of deducing a line, and of assigning a cell, on the worklist and on the grid's closure.
use Rattle.solve_core.proofs.Names.{◌≡◌, ◌≢◌, ℕ, ◌+◌, ◌*◌, ◌/◌, ◌%◌, ◌<◌, inl, inr, true, false, List, length, get_or, set, Option, Some, refl, sym, ap, ◌∙◌, arith, length-set, true≢false, cases_eq, div_below, Cell, Unknown, TrailedGrid, IsBoardOf, cells_along, cells_at, Nonogram, IsNonogram, GridLine, lines_of, line_on, crossing, line_indices, line_count, cell_index_on, Dead, Unchanged, Changed, round, closure, deduce_line, LineMasks, mask_on, IsInMask, IsEmptyMask, IsMaskWithin, Has, IsWithBit, IsMaskOf, Axis, Rows, Columns, IsDeduced, IsPropagated, AddsToWorklist, IsWorklist, WorklistAfter, StepsTowards, IsAtFixpoint, WorkspaceState, Extends-refl, length-Extends, rules}
use Rattle.solve_core.specs.declared.solving.propagation.Effect.{Effect}
use Rattle.solve_core.proofs.ClosureLaws.{closure-IsLeastClosed}
use Rattle.solve_core.proofs.StepLaws.{IsOneOf, done_within}
use Rattle.solve_core.proofs.LineSteps.{closed_settled, cells_at-same, kept-elsewhere, AreDistinct, AreBelow, settled_line, written_line, written-extends, written-settled, written-elsewhere, line_keeps, line_dead}
use Rattle.solve_core.proofs.AxisLines.{across, all_axes, along, below_indices, by_axis, distinct_indices, line_is_one, same_place}

-- the cell indices of a line are distinct
pub line-distinct : (p : Nonogram) (axis : Axis) (i : ℕ) → IsNonogram p → AreDistinct ((line_on axis p i).indices)
line-distinct p axis i is = distinct_indices axis p.width p.height i (omega (arith, is.size.width_from))

-- the cell indices of a line are below the number of cells
pub line-below : (p : Nonogram) (size : ℕ) (axis : Axis) (i : ℕ) → i < line_count axis p.width p.height → size ≡ p.width * p.height →
    AreBelow size ((line_on axis p i).indices)
line-below p size axis i l e = rw e (below_indices axis p.width p.height i l)

-- each line of a line-closed grid deduces just its own cells
pub line_settled : (p : Nonogram) (g : List Cell) (axis : Axis) (i : ℕ) → IsNonogram p → length g ≡ p.width * p.height →
    round (lines_of p) g ≡ Some g → i < line_count axis p.width p.height → IsDeduced g (line_on axis p i)
line_settled p g axis i is size closed l = search (rules, closed_settled, line_is_one, line-distinct, line-below)

-- a line still deduces just its own cells if none of them changed
pub settled-same : (g new : List Cell) (line : GridLine) → IsDeduced g line →
    ((i : ℕ) → i < length line.indices → get_or new (get_or line.indices i 0) Unknown ≡ get_or g (get_or line.indices i 0) Unknown) →
    IsDeduced new line
settled-same g new line settled same = rw (cells_at-same new g line.indices same) settled

-- after line `i` is deduced, each line that may deduce more is on the worklist, unless line `i` is dead
pub dirty-after : (p : Nonogram) (cells new : List Cell) (dirty middle after : LineMasks) (axis : Axis) (i : ℕ) (r : Effect) →
    IsWorklist p dirty cells → i < line_count axis p.width p.height →
    IsMaskOf (IsWithBit (Has (mask_on axis dirty)) i false) (mask_on axis middle) →
    mask_on (crossing axis) middle ≡ mask_on (crossing axis) dirty → IsPropagated r (line_on axis p i) cells new →
    AddsToWorklist p axis i cells new middle after → WorklistAfter r p after new
dirty-after p cells new dirty middle after axis i r m l taken other assigned changes = by r assigned
  where
    within : IsMaskWithin p.width p.height after
    within = grind (arith, by_axis, true≢false)

    -- `after` is a worklist if line `i` deduces just its own cells, and the cells elsewhere are unchanged
    marked : length new ≡ length cells → IsDeduced new (line_on axis p i) →
        ((q : ℕ) → ((k : ℕ) → k < length (line_indices axis p.width p.height i) → get_or (line_indices axis p.width p.height i) k 0 ≡ q →
        get_or new q Unknown ≡ get_or cells q Unknown) → get_or new q Unknown ≡ get_or cells q Unknown) → IsWorklist p after new
    marked long own elsewhere = record {
      puzzle = m.puzzle;
      size = long ∙ m.size;
      within = within;
      settled = by_axis (λ s. (j : ℕ) → j < line_count s p.width p.height → (IsInMask after s j → ⊥) → IsDeduced new (line_on s p j)) axis
          (λ j lj n. elim (cases_eq j i) [
            | inl same ↦ rw same own
            | inr ne ↦ settled-same cells new (line_on axis p j) (search (rules, m.settled, changes.own, taken.from))
                (search (rules, along, same_place, elsewhere))
          ])
          (λ j lj n.
          let same = changes.same j lj n in
          settled-same cells new (line_on (crossing axis) p j) (search (rules, m.settled, changes.kept, other))
          (λ b lb. elsewhere _ (λ k lk meet. grind (arith, across, along, same_place, same))));
    }

    by : (r : Effect) → IsPropagated r (line_on axis p i) cells new → WorklistAfter r p after new
    by Dead assigned = tt
    by Unchanged assigned =
        marked (ap length assigned.0) (rw assigned.0 assigned.1) (λ q k. ap (λ (g : List Cell). get_or g q Unknown) assigned.0)
    by Changed assigned =
        let line = line_on axis p i in
        let distinct = line-distinct p axis i m.puzzle in
        let below = line-below p (length cells) axis i l m.size in
        marked (sym (length-Extends cells new (written-extends line cells new assigned.0)))
        (written-settled line cells new assigned.0 distinct below) (written-elsewhere line cells new assigned.0 distinct below)

-- a line of the board has the cells at the cell indices of the puzzle's line
pub seen : (p : Nonogram) (g : TrailedGrid) (axis : Axis) (i : ℕ) → IsBoardOf p g → cells_along g axis i ≡
    cells_at Unknown g.cells ((line_on axis p i).indices)
seen p g axis i b = λ j. cells_at Unknown g.cells (line_indices axis (b.0 j) (b.1 j) i)

-- if each line deduces just its own cells, the grid is its own closure
pub settled_closed : (p : Nonogram) (cells : List Cell) → IsNonogram p →
    ((axis : Axis) (i : ℕ) → i < line_count axis p.width p.height → IsDeduced cells (line_on axis p i)) →
    closure (lines_of p) cells ≡ Some cells
settled_closed p cells is settled =
    done_within (lines_of p) cells cells (Extends-refl cells) ((closure-IsLeastClosed (lines_of p) cells).above)
    (all_axes (λ line. deduce_line cells line ≡ Some cells) p is (λ axis i l. settled_line cells (line_on axis p i) (settled axis i l)))

-- if no line is dirty, the grid is its own closure
pub none_dirty_closed : (p : Nonogram) (dirty : LineMasks) (cells : List Cell) → IsWorklist p dirty cells → IsEmptyMask dirty →
    closure (lines_of p) cells ≡ Some cells
none_dirty_closed p dirty cells m none_dirty = settled_closed p cells m.puzzle (λ axis i l. m.settled axis i l (none_dirty axis i))

-- a step towards `f` that isn't dead doesn't change `f` of the cells
pub effect-keeps : (f : List Cell → Option (List Cell)) (r : Effect) (old new : List Cell) → r ≢ Dead → StepsTowards f r old new →
    f new ≡ f old
effect-keeps f r old new h k = search rules

-- writing a cell of line `i` doesn't change another line `j` of the same axis
apart_kept : (p : Nonogram) (cells : List Cell) (axis : Axis) (i b k j : ℕ) (c : Cell) → i < line_count axis p.width p.height →
    b < line_count (crossing axis) p.width p.height → k ≡ cell_index_on axis p.width i b → j < line_count axis p.width p.height → j ≢ i →
    cells_at Unknown (set cells k c) (line_on axis p j).indices ≡ cells_at Unknown cells (line_on axis p j).indices
apart_kept p cells axis i b k j c li lb e lj ne =
    kept-elsewhere cells k c (line_on axis p j) (λ d ld s.
    let there = along axis p.width p.height j d ld in
    ne (sym (same_place axis p.width p.height i b j d li lb lj there.0 (sym e ∙ s ∙ there.1)).0))

-- another line `j` of the same axis still deduces just its own cells after a cell of line `i` is written
pub apart_settled : (p : Nonogram) (cells : List Cell) (axis : Axis) (i b k j : ℕ) (c : Cell) → i < line_count axis p.width p.height →
    b < line_count (crossing axis) p.width p.height → k ≡ cell_index_on axis p.width i b → j < line_count axis p.width p.height → j ≢ i →
    IsDeduced cells (line_on axis p j) → IsDeduced (set cells k c) (line_on axis p j)
apart_settled p cells axis i b k j c li lb e lj ne deduced = rw (apart_kept p cells axis i b k j c li lb e lj ne) deduced

-- after a cell is assigned, the worklist is complete if its row and its column are added
pub place_worklist : (p : Nonogram) (cells : List Cell) (dirty after : LineMasks) (k y x : ℕ) (c : Cell) → IsWorklist p dirty cells →
    y < p.height → x < p.width → k ≡ y * p.width + x → IsMaskOf (IsWithBit (Has dirty.rows) y true) after.rows →
    IsMaskOf (IsWithBit (Has dirty.columns) x true) after.columns → IsWorklist p after (set cells k c)
place_worklist p cells dirty after k y x c m hy hx at rows columns = record {
  puzzle = m.puzzle;
  size = length-set cells k c ∙ m.size;
  within = elim [ Rows ↦ within Rows y hy rows | Columns ↦ within Columns x hx columns ];
  settled = elim [ Rows ↦ settled Rows y x hy hx at rows | Columns ↦ settled Columns x y hx hy at columns ];
}
  where
    within : (axis : Axis) (i : ℕ) → i < line_count axis p.width p.height →
        IsMaskOf (IsWithBit (Has (mask_on axis dirty)) i true) (mask_on axis after) → (j : ℕ) → IsInMask after axis j →
        j < line_count axis p.width p.height
    within axis i l mask j h = elim (mask.to j h) [ inl old ↦ m.within axis j old.0 | inr own ↦ rw own.0 l ]

    settled : (axis : Axis) (i b : ℕ) → i < line_count axis p.width p.height → b < line_count (crossing axis) p.width p.height →
        k ≡ cell_index_on axis p.width i b → IsMaskOf (IsWithBit (Has (mask_on axis dirty)) i true) (mask_on axis after) →
        (j : ℕ) → j < line_count axis p.width p.height → (IsInMask after axis j → ⊥) → IsDeduced (set cells k c) (line_on axis p j)
    settled axis i b li lb e mask j lj n =
        let ne : j ≢ i = λ same. n (mask.from j (inr (same, refl))) in
        apart_settled p cells axis i b k j c li lb e lj ne (m.settled axis j lj (λ h. n (mask.from j (inl (h, ne)))))

-- the column and the row of cell `k` are within the puzzle's grid, and determine `k`
pub place_split : (p : Nonogram) (cells : List Cell) (k : ℕ) → IsNonogram p → length cells ≡ p.width * p.height → k < length cells
    → (k % p.width < p.width) × (k / p.width < p.height) × (k / p.width * p.width + k % p.width ≡ k)
place_split p cells k is size l = search (rules, div_below)

-- a board at its fixpoint is line-closed
pub fixpoint_closed : (s : WorkspaceState) → IsAtFixpoint s → round (lines_of s.puzzle) s.board.cells ≡ Some s.board.cells
fixpoint_closed s r = (closure-IsLeastClosed (lines_of s.puzzle) s.board.cells).closed s.board.cells
    (none_dirty_closed s.puzzle s.dirty s.board.cells r.worklist r.clean)

-- a line-closed board is at its fixpoint if no line is dirty
pub closed_fixpoint : (s : WorkspaceState) → IsNonogram s.puzzle → length s.board.cells ≡ s.puzzle.width * s.puzzle.height →
    round (lines_of s.puzzle) s.board.cells ≡ Some s.board.cells → IsEmptyMask s.dirty → IsAtFixpoint s
closed_fixpoint s is size closed clean = search (rules, line_settled)

-- deducing one of the lines is a step towards the closure
pub assigned-effect : (lines : List GridLine) (line : GridLine) (g new : List Cell) (r : Effect) → IsOneOf line lines →
    IsPropagated r line g new → StepsTowards (closure lines) r g new
assigned-effect lines line g new Dead m h = line_dead lines g line m h
assigned-effect lines line g new Unchanged m h = h.0
assigned-effect lines line g new Changed m h = search (rules, line_keeps, written-extends, written_line)
