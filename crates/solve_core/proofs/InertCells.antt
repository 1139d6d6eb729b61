-- Colours that are inert at a cell: neither its row nor its column deduces anything else from them.
use Rattle.solve_core.proofs.Names.{◌≡◌, ◌∙◌, ℕ, ◌*◌, ◌+◌, ◌<◌, List, length, get_or, set, Some, true, arith, cases_eq, inl, inr, refl, subst, Cell, Unknown, Filled, Blank, Has, colour, is_filled, is_known, Nonogram, Axis, Rows, Columns, cells_at, deduced, line_on, lines_of, closure, crossing, line_count, cell_index_on, get_or-cells_at, get_or-line_indices, length-cells_at, length-line_indices, TrailedGrid, IsBoardOf, cells_along, IsDeduced, IsAtFixpoint, WorkspaceState}
use Rattle.line_core.specs.Lookahead.{AreInert}
use Rattle.solve_core.specs.steps.Trails.{CanAssign}
use Rattle.solve_core.proofs.AxisLines.{line-set}
use Rattle.solve_core.proofs.GridSteps.{apart_settled, seen, settled_closed}

-- the colour of a known cell, as a cell, is the cell
coloured_as : (c : Cell) → is_known c ≡ true → colour (is_filled c) ≡ c
coloured_as Filled known = refl
coloured_as Blank known = refl
coloured_as Unknown known = cc

-- line `i` of an axis deduces just its own cells after a colour is assigned to its cell `k`, if the colour is inert there
pub inert_line : (p : Nonogram) (g : TrailedGrid) (line : List Cell) (c : Cell) (axis : Axis) (i k m : ℕ) → IsBoardOf p g → 0 < p.width
    → i < line_count axis p.width p.height → k < line_count (crossing axis) p.width p.height
    → CanAssign g.cells (cell_index_on axis p.width i k) c → line ≡ cells_along g axis i
    → AreInert (line_on axis p i).clue line (is_filled c) m → Has m k
    → IsDeduced (set g.cells (cell_index_on axis p.width i k) c) (line_on axis p i)
inert_line p g line c axis i k m size some li lk can along inert has =
    let old = cells_at Unknown g.cells (line_on axis p i).indices in
    let clue = (line_on axis p i).clue in
    let inside : k < length old = omega (
      arith,
      lk,
      length-cells_at Unknown g.cells (line_on axis p i).indices,
      length-line_indices axis p.width p.height i,
    ) in
    let unknown : get_or old k Unknown ≡ Unknown =
    grind (arith, can.unknown, get_or-cells_at, get_or-line_indices, length-line_indices) in
    let known : AreInert clue old (is_filled c) m = rw (along ∙ seen p g axis i size) at inert in
    rw (line-set axis p.width p.height i k _ g.cells c some li lk refl size.2)
    (subst (λ (v : Cell). deduced (set old k v) clue ≡ Some (set old k v)) (coloured_as c can.known)
    (known.nothing_else k inside unknown has))

module _ (s : WorkspaceState) (c : Cell) (fixpoint : IsAtFixpoint s) (place y x : ℕ)
    (at : place ≡ y * s.puzzle.width + x) (hy : y < s.puzzle.height) (hx : x < s.puzzle.width) where
  -- if line `i` of an axis deduces just its own cells after its cell `b` is assigned, so does each line of that axis
  each : (axis : Axis) (i b : ℕ) → i < line_count axis s.puzzle.width s.puzzle.height
      → b < line_count (crossing axis) s.puzzle.width s.puzzle.height → place ≡ cell_index_on axis s.puzzle.width i b
      → IsDeduced (set s.board.cells place c) (line_on axis s.puzzle i)
      → (j : ℕ) → j < line_count axis s.puzzle.width s.puzzle.height → IsDeduced (set s.board.cells place c) (line_on axis s.puzzle j)
  each axis i b li lb e own j lj = elim (cases_eq j i) [
    | inl same ↦ rw same own
    | inr other ↦ apart_settled s.puzzle s.board.cells axis i b place j c li lb e lj other
        (fixpoint.worklist.settled axis j lj (fixpoint.clean axis j))
  ]

  -- a colour that is inert on the row and on the column of a cell is inert in the grid
  pub inert_cell : IsDeduced (set s.board.cells place c) (line_on Rows s.puzzle y)
      → IsDeduced (set s.board.cells place c) (line_on Columns s.puzzle x)
      → closure (lines_of s.puzzle) (set s.board.cells place c) ≡ Some (set s.board.cells place c)
  inert_cell row column = settled_closed s.puzzle (set s.board.cells place c) fixpoint.worklist.puzzle
      (elim [ Rows ↦ each Rows y x hy hx at row | Columns ↦ each Columns x y hx hy at column ])
