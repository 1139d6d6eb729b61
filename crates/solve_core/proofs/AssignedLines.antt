-- The lines of a grid after one of them is written, and its changed cells into the lines that cross it: an assignment,
-- or one that is undone.
use Rattle.solve_core.proofs.Names.{◌≡◌, ◌≢◌, ◌∙◌, bit_at, cond, eq-eqb, has, is_known, ne_eqb, true, true≢false, refl, ℕ, ◌+◌, ◌*◌, ◌<◌, inl, inr, List, [], length, get_or, set, sym, ap, arith, length-set, get_or-set_same, get_or-set_other, cases_eq, cases_lt, get_or_past, set-get_or, zero-add, Cell, Unknown, Axis, Rows, Columns, Extends, IsWithBit, cells_at, crossing, line_indices, IsSize, PartialGrid, cells_of_rows, line_count, line_in, with_line, CanAssignLine, CanReplace, cell_index_on, same_cells, get_or-cells_at, length-cells_at, length-line_indices, get_or-line_indices, Extends-at, Extends-refl, Has, IsMaskOf, with_cells, AreLinesOf, board_of, cells_along, IsWhole, TrailedGrid, CanWriteIn, LineEntry, IsEntryOf, entry_on, with_unknown_at, undo_entry, unknown_count, length-Extends, ext_get_or, rules}
use Rattle.solve_core.proofs.ClosureLaws.{length-with_cells, with_cells-monotone, with_cells-read}
use Rattle.solve_core.proofs.Changes.{none_in}
use Rattle.solve_core.proofs.Closing.{fewer_unknown}
use Rattle.solve_core.proofs.GridLineSteps.{grid_of_lines, lines_cells}
use Rattle.solve_core.proofs.LineSteps.{cells_at-same, cells_at-with_cells, get_or-with_cells, assigned_cell, with_cells-same}
use Rattle.solve_core.proofs.Order.{set_extends}
use Rattle.solve_core.proofs.AxisLines.{across, along, below_indices, crossing_twice, distinct_indices, line-set, same_place}
use Rattle.std.proofs.lemmas.List.FromFn.{get_or-map-range_with_len, length-map-range_with_len}

-- a line that can be replaced, stated of a grid `b` that is equal to `g`, and of the axis itself
pub replaces_at : {axis : Axis} {i m : ℕ} {new : List Cell} {b g : PartialGrid} (own : Axis) → b ≡ g → axis ≡ own
    → CanReplace g axis i new m → CanReplace b own i new m
replaces_at {axis} {i} {m} {new} {b} {g} own seen same is = rw (seen, ← same) is

-- `lines` are the lines of an axis in the grid `cells`
abbrev pub AreOn : Axis → ℕ → ℕ → List Cell → List (List Cell) → Type 0
AreOn axis w h cells lines = (length lines ≡ line_count axis w h) ×
    ((k : ℕ) → k < length lines → get_or lines k [] ≡ cells_at Unknown cells (line_indices axis w h k))

abbrev after : Axis → ℕ → ℕ → ℕ → List Cell → List Cell → List Cell
after axis w h i cells new = with_cells cells (line_indices axis w h i) new

-- cell `k` of line `i` is the grid's cell at that index
at_own : (axis : Axis) (w h i k : ℕ) (cells : List Cell) → k < line_count (crossing axis) w h →
    get_or (cells_at Unknown cells (line_indices axis w h i)) k Unknown ≡ get_or cells (cell_index_on axis w i k) Unknown
at_own axis w h i k cells l = search (rules, get_or-cells_at, length-line_indices, get_or-line_indices)

-- cell `t` of the crossing line `k` exists, and is the grid's cell at that index
at_across : (axis : Axis) (w h k t : ℕ) (cells : List Cell) → k < line_count (crossing axis) w h → t < line_count axis w h →
    (t < length (cells_at Unknown cells (line_indices (crossing axis) w h k))) ×
    (get_or (cells_at Unknown cells (line_indices (crossing axis) w h k)) t Unknown ≡ get_or cells (cell_index_on axis w t k) Unknown)
at_across axis w h k t cells lk lt = search (rules, length-line_indices, crossing_twice, length-cells_at, get_or-cells_at, across)

-- making cells unknown doesn't change the length of a line
pub length-with_unknown_at : (m : ℕ) (line : List Cell) → length (with_unknown_at m line) ≡ length line
length-with_unknown_at m line = length-map-range_with_len (λ (k : ℕ). cond (has m k) Unknown (get_or line k Unknown)) 0 (length line)

-- cell `k` of `with_unknown_at m line` is unknown if `m` has `k`, and otherwise that of `line`
pub get_or-with_unknown_at : (m : ℕ) (line : List Cell) (k : ℕ) → k < length line →
    get_or (with_unknown_at m line) k Unknown ≡ cond (has m k) Unknown (get_or line k Unknown)
get_or-with_unknown_at m line k l =
    get_or-map-range_with_len (λ (j : ℕ). cond (has m j) Unknown (get_or line j Unknown)) 0 (length line) k k Unknown l (zero-add k)

-- the cells of `with_unknown_at m line` at the indices `m` are unknown
pub with_unknown_at-is : (m : ℕ) (line : List Cell) (k : ℕ) → Has m k → get_or (with_unknown_at m line) k Unknown ≡ Unknown
with_unknown_at-is m line k has = elim (cases_lt k (length line)) [
  | inl l ↦ get_or-with_unknown_at m line k l ∙ rw (eq-eqb (bit_at m k) 1 has) refl
  | inr past ↦ get_or_past (with_unknown_at m line) k Unknown (omega (arith, past, length-with_unknown_at m line))
]

module _ (axis : Axis) (w h i m : ℕ) (cells new : List Cell) (some : 0 < w) (count : length cells ≡ w * h)
    (is : CanReplace (record { width = w; height = h; cells = cells }) axis i new m) where
  -- line `i` has the cells that were written
  pub own_read : cells_at Unknown (after axis w h i cells new) (line_indices axis w h i) ≡ new
  own_read = search (rules, cells_at-with_cells, distinct_indices, below_indices, length-line_indices)

  -- each other line of the same axis is unchanged
  pub own_kept : (k : ℕ) → k < line_count axis w h → k ≢ i →
      cells_at Unknown (after axis w h i cells new) (line_indices axis w h k) ≡ cells_at Unknown cells (line_indices axis w h k)
  own_kept k lk ne = grind (arith, cells_at-same, along, get_or-with_cells, same_place)

  -- with line `i` replaced, `own` are the lines of the axis in the new grid
  own_assigned : (own : List (List Cell)) → AreOn axis w h cells own → AreOn axis w h (after axis w h i cells new) (set own i new)
  own_assigned own are = (
    length-set own i new ∙ are.0,
    λ k l. elim (cases_eq k i) [
      | inl same ↦ rw same (get_or-set_same own i new [] (omega (arith, is.line, are.0)) ∙ sym own_read)
      | inr other ↦ get_or-set_other own i k new [] other ∙ are.1 k (omega (arith, l, length-set own i new)) ∙
          sym (own_kept k (omega (arith, l, length-set own i new, are.0)) other)
    ],
  )

  -- a crossing line gets the new line's cell at index `i`
  crossed : (k : ℕ) → k < line_count (crossing axis) w h
      → cells_at Unknown (after axis w h i cells new) (line_indices (crossing axis) w h k) ≡
      set (cells_at Unknown cells (line_indices (crossing axis) w h k)) i (get_or new k Unknown)
  crossed k lk =
      let now = after axis w h i cells new in
      let indices = line_indices (crossing axis) w h k in
      let before = cells_at Unknown cells indices in
      let v = get_or new k Unknown in
      let long = length-cells_at Unknown now indices in
      ext_get_or Unknown (cells_at Unknown now indices) (set before i v)
      (long ∙ sym (length-set before i v ∙ length-cells_at Unknown cells indices)) (λ t lt.
      let inner : t < line_count axis w h = rw (long, length-line_indices (crossing axis) w h k, crossing_twice axis) at lt in
      (at_across axis w h k t now lk inner).1 ∙ elim (cases_eq t i) [
        | inl same ↦ search (rules, at_own, own_read, get_or-set_same, at_across)
        | inr other ↦ search (rules, get_or-with_cells, along, same_place, at_across, get_or-set_other)
      ])

  -- a crossing line at an index that isn't in `m` is unchanged
  pub across_kept : (k : ℕ) → k < line_count (crossing axis) w h → (Has m k → ⊥) →
      cells_at Unknown (after axis w h i cells new) (line_indices (crossing axis) w h k)
      ≡ cells_at Unknown cells (line_indices (crossing axis) w h k)
  across_kept k lk none =
      crossed k lk ∙
      rw (is.others k lk none ∙ at_own axis w h i k cells lk ∙ sym (at_across axis w h k i cells lk is.line).1) (set-get_or _ i Unknown)

  -- the crossing lines, written at the indices `m`, are those of the new grid
  across_assigned : (lines more : List (List Cell)) → AreOn (crossing axis) w h cells lines → length more ≡ length lines →
      ((k : ℕ) → Has m k → get_or more k [] ≡ set (get_or lines k []) i (get_or new k Unknown)) →
      ((k : ℕ) → (Has m k → ⊥) → get_or more k [] ≡ get_or lines k []) → AreOn (crossing axis) w h (after axis w h i cells new) more
  across_assigned lines more are long changed others = search (rules, cases_eq, crossed, across_kept)

  -- each changed cell can be written into the line that crosses there
  pub can_write : (lines : List (List Cell)) → AreOn (crossing axis) w h cells lines → (k : ℕ) → Has m k
      → CanWriteIn lines i (get_or new k Unknown) k
  can_write lines are k has =
      let here = is.within k has in
      let line : k < length lines = omega (arith, here, are.0) in
      let read = at_across axis w h k i cells here is.line in
      record {
        line = line;
        within = rw (are.1 k line) read.0;
        unknown = λ known. rw (are.1 k line) (read.1 ∙ sym (at_own axis w h i k cells here) ∙ is.unknown k has known);
      }

-- ---- an assignment to a line

module _ (axis : Axis) (i m : ℕ) (new : List Cell) (b : PartialGrid) (entries : List LineEntry) (some : 0 < b.width)
    (count : length b.cells ≡ b.width * b.height) (is : CanAssignLine (board_of b entries) axis i new m) where
  abbrev old : List Cell
  old = line_in b axis i

  long : length old ≡ line_count (crossing axis) b.width b.height
  long = length-cells_at Unknown b.cells (line_indices axis b.width b.height i) ∙ length-line_indices axis b.width b.height i

  -- a cell that changed was unknown and is known now
  assigned_at : (k : ℕ) → Has m k → (get_or old k Unknown ≡ Unknown) × (is_known (get_or new k Unknown) ≡ true)
  assigned_at k has = assigned_cell (get_or old k Unknown) (get_or new k Unknown) (Extends-at old new k is.more) (is.changes_are.to k has).1

  -- a line that can be assigned can be replaced
  pub assigned_replaces : CanReplace b axis i new m
  assigned_replaces = record {
    line = is.line;
    count = sym (length-Extends old new is.more) ∙ long;
    within = λ k has. omega (arith, (is.changes_are.to k has).0, long);
    unknown = λ k has known. (assigned_at k has).0;
    others = λ k lk none. same_cells (get_or old k Unknown) (get_or new k Unknown)
        (λ d. none (is.changes_are.from k (omega (arith, lk, long), d)));
  }

  abbrev now : List Cell
  now = after axis b.width b.height i b.cells new

  -- undoing the assignment restores the old cells
  assigned_back : undo_entry now (entry_on b.width b.height (record { axis = axis; line = i; changes = m })) ≡ b.cells
  assigned_back =
      let indices = line_indices axis b.width b.height i in
      let can = assigned_replaces in
      let line : with_unknown_at m new ≡ old = ext_get_or Unknown (with_unknown_at m new) old
      (length-with_unknown_at m new ∙ can.count ∙ sym long) (λ k l.
      let here : k < length new = rw (length-with_unknown_at m new) at l in
      get_or-with_unknown_at m new k here ∙ elim (cases_eq (bit_at m k) 1) [
        | inl has ↦ rw (eq-eqb (bit_at m k) 1 has) (sym (assigned_at k has).0)
        | inr none ↦ rw (ne_eqb (bit_at m k) 1 none) (can.others k (omega (arith, here, can.count)) none)
      ]) in
      rw (own_read axis b.width b.height i m b.cells new some count can, line)
      (with_cells-same now b.cells indices (distinct_indices axis b.width b.height i some)
      (rw (length-with_cells b.cells indices new, count) (below_indices axis b.width b.height i is.line))
      (sym (length-with_cells b.cells indices new))
      (λ q none. get_or-with_cells b.cells indices new q (λ k l e. absurd (none k l e))))

  -- after the assignment fewer cells are unknown
  assigned_fewer : unknown_count now < unknown_count b.cells
  assigned_fewer =
      let indices = line_indices axis b.width b.height i in
      let more : Extends b.cells now = rw (with_cells-read Unknown b.cells indices) at
      (with_cells-monotone b.cells b.cells indices old new (Extends-refl b.cells) is.more) in
      elim (fewer_unknown b.cells now more) [
        | inl same ↦ absurd (is.some (sym (own_read axis b.width b.height i m b.cells new some count assigned_replaces) ∙
            ap (λ (g : List Cell). cells_at Unknown g indices) same))
        | inr fewer ↦ fewer
      ]

  -- it is an entry of the board's trail; undoing it restores the old cells
  pub assigned_entry : let s : LineEntry = record { axis = axis; line = i; changes = m } in
      IsEntryOf b.width b.height s × (undo_entry now (entry_on b.width b.height s) ≡ b.cells) ×
      (unknown_count now < unknown_count b.cells) × (length now ≡ length b.cells)
  assigned_entry = (
    record { line_in = is.line; within = assigned_replaces.within },
    assigned_back,
    assigned_fewer,
    length-with_cells b.cells (line_indices axis b.width b.height i) new,
  )

-- the unknown cell in column `x` and row `y` of a board is assigned the colour `c`
module _ (t : TrailedGrid) (x y : ℕ) (c : Cell) (row : List Cell) (whole : IsWhole t) (lx : x < t.width) (ly : y < t.height)
    (unknown : get_or t.cells (y * t.width + x) Unknown ≡ Unknown) (known : is_known c ≡ true) (row_is : row ≡ cells_along t Rows y) where
  pub row_wide : length row ≡ t.width
  row_wide =
      ap length row_is ∙ length-cells_at Unknown t.cells (line_indices Rows t.width t.height y)
      ∙ length-line_indices Rows t.width t.height y

  pub row_unknown : get_or row x Unknown ≡ Unknown
  row_unknown = rw row_is (at_own Rows t.width t.height y x t.cells lx ∙ unknown)

  changed : get_or (set row x c) x Unknown ≢ get_or row x Unknown
  changed e =
      true≢false (sym known ∙ ap is_known (sym (get_or-set_same row x c Unknown (omega (arith, lx, row_wide))) ∙ e ∙ row_unknown))

  -- the row can be assigned the cell, which alone changes
  pub row_assigns : (none m : ℕ) → none ≡ 0 → IsMaskOf (IsWithBit (Has none) x true) m → CanAssignLine t Rows y (set row x c) m
  row_assigns none m empty marked = record {
    line = ly;
    more = rw (← row_is) (set_extends row x c row_unknown);
    changes_are = rw (← row_is) (record {
      to = λ k has. elim (marked.to k has) [
        | inl at ↦ absurd (none_in none empty k at.0)
        | inr at ↦ rw at.0 (omega (arith, lx, row_wide), changed)
      ];
      from = λ k at. elim (cases_eq k x) [
        | inl same ↦ marked.from k (inr (same, refl))
        | inr other ↦ absurd (at.1 (get_or-set_other row x k c Unknown other))
      ];
    });
    some = λ e. changed (ap (λ (r : List Cell). get_or r x Unknown) (e ∙ sym row_is));
  }

  -- writing the row into the grid is writing the cell
  pub row_written : with_cells t.cells (line_indices Rows t.width t.height y) (set row x c) ≡ set t.cells (y * t.width + x) c
  row_written =
      let at = y * t.width + x in
      let some : 0 < t.width = omega (arith, lx) in
      let indices = line_indices Rows t.width t.height y in
      rw (row_is, ← line-set Rows t.width t.height y x at t.cells c some ly lx refl whole.1)
      (with_cells-same t.cells (set t.cells at c) indices
      (distinct_indices Rows t.width t.height y some) (rw whole.1 (below_indices Rows t.width t.height y ly))
      (length-set t.cells at c) (λ p none. sym (get_or-set_other t.cells at p c Unknown
      (λ e. none x (omega (arith, lx, length-line_indices Rows t.width t.height y))
      (get_or-line_indices Rows t.width t.height y x lx ∙ sym e)))))

-- ---- an assignment that is undone

-- the line of a trail entry can be made unknown at its changes
pub undone_replaces : (g : PartialGrid) (s : LineEntry) → IsEntryOf g.width g.height s
    → CanReplace g s.axis s.line (with_unknown_at s.changes (line_in g s.axis s.line)) s.changes
undone_replaces g s is =
    let line = line_in g s.axis s.line in
    let long = length-cells_at Unknown g.cells (line_indices s.axis g.width g.height s.line)
    ∙ length-line_indices s.axis g.width g.height s.line in
    record {
      line = is.line_in;
      count = length-with_unknown_at s.changes line ∙ long;
      within = is.within;
      unknown = λ k has known. absurd (true≢false (sym known ∙ ap is_known (with_unknown_at-is s.changes line k has)));
      others = λ k lk none. get_or-with_unknown_at s.changes line k (omega (arith, lk, long)) ∙
          rw (ne_eqb (bit_at s.changes k) 1 none) refl;
    }

-- ---- the lines of a grid

-- rows and columns with the cells of a grid are its lines
whole : (w h : ℕ) (cells : List Cell) (rows columns : List (List Cell)) → IsSize w h → length cells ≡ w * h → AreOn Rows w h cells rows →
    AreOn Columns w h cells columns → (grid_of_lines rows columns ≡ record { width = w; height = h; cells = cells })
    × AreLinesOf (cells_of_rows rows) rows columns
whole w h cells rows columns size count high wide = search (rules, lines_cells)

-- after a row is written, and its changed cells into the columns, the rows and the columns are the lines of the new
-- grid
pub replaced_rows : (i m : ℕ) (new : List Cell) (rows columns lines more : List (List Cell))
    → AreLinesOf (cells_of_rows rows) rows columns →
    CanReplace (grid_of_lines rows columns) Rows i new m → lines ≡ columns → length more ≡ length lines →
    ((k : ℕ) → Has m k → get_or more k [] ≡ set (get_or lines k []) i (get_or new k Unknown)) →
    ((k : ℕ) → (Has m k → ⊥) → get_or more k [] ≡ get_or lines k []) →
    (grid_of_lines (set rows i new) more ≡ with_line (grid_of_lines rows columns) Rows i new) ×
    AreLinesOf (cells_of_rows (set rows i new)) (set rows i new) more
replaced_rows i m new rows columns lines more a is e long changed others =
    whole _ _ _ _ more a.size (length-with_cells (cells_of_rows rows) _ new ∙ a.count)
    (own_assigned Rows _ _ i m _ new a.size.width_from a.count is rows (refl, a.rows_are))
    (across_assigned Rows _ _ i m _ new a.size.width_from a.count is lines more (ap length e, rw e a.columns_are) long changed others)

-- after a column is written, and its changed cells into the rows, the rows and the columns are the lines of the new
-- grid
pub replaced_columns : (i m : ℕ) (new : List Cell) (rows columns lines more : List (List Cell))
    → AreLinesOf (cells_of_rows rows) rows columns →
    CanReplace (grid_of_lines rows columns) Columns i new m → lines ≡ rows → length more ≡ length lines →
    ((k : ℕ) → Has m k → get_or more k [] ≡ set (get_or lines k []) i (get_or new k Unknown)) →
    ((k : ℕ) → (Has m k → ⊥) → get_or more k [] ≡ get_or lines k []) →
    (grid_of_lines more (set columns i new) ≡ with_line (grid_of_lines rows columns) Columns i new) ×
    AreLinesOf (cells_of_rows more) more (set columns i new)
replaced_columns i m new rows columns lines more a is e long changed others =
    whole _ _ _ more _ a.size (length-with_cells (cells_of_rows rows) _ new ∙ a.count)
    (across_assigned Columns _ _ i m _ new a.size.width_from a.count is lines more (ap length e, rw e a.rows_are) long changed others)
    (own_assigned Columns _ _ i m _ new a.size.width_from a.count is columns (refl, a.columns_are))
