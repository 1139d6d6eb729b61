-- The rows and the columns of a grid: how they are read, written and counted.
use Rattle.solve_core.proofs.Names.{◌≡◌, ℕ, ◌+◌, ◌-◌, ◌*◌, ◌/◌, ◌%◌, ◌<◌, ◌≤◌, List, [], ◌∷◌, length, get_or, refl, sym, ap, ◌∙◌, arith, replicate, ext_get_or, get_or_default, get_or-replicate, length-replicate, div_below, Cell, Unknown, PartialGrid, IsSize, strided_indices, cells_at, length-strided_indices, get_or-strided_indices, length-cells_at, get_or-cells_at, IsUnknownCell, AreLinesOf, cells_of_rows, row_of, get_or-row_of, get_or-rows, length-row_of, length-rows, cases_lt, inl, inr, subst, rules, sum_by-cons, count_by, is_known}
use Rattle.std.specs.Prelude.{◌^◌, sum_by}
use Rattle.std.proofs.lemmas.List.Sums.{count_by-le-length, sum_by-append}
use Rattle.solve_core.proofs.AxisLines.{row_within}
use Rattle.solve_core.proofs.LineSteps.{get_or-replicated}

pub length-along : (cells : List Cell) (first step n : ℕ) → length (cells_at Unknown cells (strided_indices first step n)) ≡ n
length-along cells first step n = length-cells_at Unknown cells (strided_indices first step n) ∙ length-strided_indices first step n

pub get_or-along : (cells : List Cell) (first step n i k : ℕ) → i < n → first + i * step ≡ k →
    get_or (cells_at Unknown cells (strided_indices first step n)) i Unknown ≡ get_or cells k Unknown
get_or-along cells first step n i k h e = search (rules, get_or-cells_at, length-strided_indices, get_or-strided_indices)

-- the column and the row of cell `k` are within the grid, and determine `k`
pub place_in : (cells : List Cell) (rows columns : List (List Cell)) (k : ℕ) → AreLinesOf cells rows columns → k < length cells
    → (0 < length columns) × (k % length columns < length columns) × (k / length columns < length rows) ×
    (k ≡ k / length columns * length columns + k % length columns)
place_in cells rows columns k a l = search (rules, div_below)

-- the cell in column `x` and row `y` is a cell of the grid
pub cell_in : (cells : List Cell) (rows columns : List (List Cell)) (x y : ℕ) → AreLinesOf cells rows columns → x < length columns →
    y < length rows → y * length columns + x < length cells
cell_in cells rows columns x y a lx ly = omega (arith, row_within (length columns) (length rows) y x ly lx, a.count)

-- a line read at a valid index doesn't depend on the default value
pub line_read : (lines : List (List Cell)) (i : ℕ) (line : List Cell) → i < length lines → get_or lines i line ≡ get_or lines i []
line_read lines i line h = get_or_default lines i line [] h

-- ---- lines that are written one by one

-- the first `n` lines are those of `new`, and the others those of `old`
pub record IsWrittenTo (old : List (List Cell)) (new : ℕ → List Cell) (n : ℕ) (lines : List (List Cell)) : Type 0 where
  pub written : (k : ℕ) → k < n → get_or lines k [] ≡ new k
  pub left : (k : ℕ) → n ≤ k → get_or lines k [] ≡ get_or old k []

-- ---- the cells of rows and of columns

-- the cell in column `x` and row `y` is the same in its row, in its column and in the grid
pub cell-read : {cells : List Cell} (rows columns : List (List Cell)) (x y : ℕ) → AreLinesOf cells rows columns → x < length columns →
    y < length rows → (get_or (get_or rows y []) x Unknown ≡ get_or cells (y * length columns + x) Unknown) ×
    (get_or (get_or columns x []) y Unknown ≡ get_or cells (y * length columns + x) Unknown)
cell-read {cells} rows columns x y a lx ly = search (rules, get_or-along)

-- the cells of the rows, one row after the other, are those of the grid
pub lines_cells : (cells : List Cell) (rows columns : List (List Cell)) → AreLinesOf cells rows columns → cells_of_rows rows ≡ cells
lines_cells cells rows columns a =
    let w = length columns in
    let wide = λ (y : ℕ) (l : y < length rows). ap length (a.rows_are y l) ∙ length-along cells (y * w) 1 w in
    let long = length-rows w rows wide in
    ext_get_or Unknown (cells_of_rows rows) cells (omega (arith, long, a.count)) (λ k l.
    let at = place_in cells rows columns k a (omega (arith, long, a.count)) in
    rw (← at.3) at (get_or-rows w rows (k / w) (k % w) wide at.2 at.1 ∙ (cell-read rows columns (k % w) (k / w) a at.1 at.2).0))

-- a row is as long as the grid is wide, and a column as long as it is high
pub lines-long : (rows columns : List (List Cell)) (x y : ℕ) → AreLinesOf (cells_of_rows rows) rows columns → x < length columns →
    y < length rows → (length (get_or rows y []) ≡ length columns) × (length (get_or columns x []) ≡ length rows)
lines-long rows columns x y a lx ly = search (rules, length-along)

-- the grid whose lines are `rows` and `columns`
abbrev pub grid_of_lines : List (List Cell) → List (List Cell) → PartialGrid
grid_of_lines rows columns = record { width = length columns; height = length rows; cells = cells_of_rows rows }

-- each cell that is read from an unknown grid is unknown
read-unknown : (n : ℕ) (indices : List ℕ) → cells_at Unknown (replicate n Unknown) indices ≡ replicate (length indices) Unknown
read-unknown n [] = refl
read-unknown n (k ∷ indices) = λ i. get_or-replicated n k Unknown i ∷ read-unknown n indices i

-- unknown rows and columns are the lines of the unknown grid
pub lines-unknown : (w h : ℕ) (rows columns : List (List Cell)) → IsSize w h → rows ≡ replicate h (replicate w Unknown) →
    columns ≡ replicate w (replicate h Unknown)
    → (cells_of_rows rows ≡ replicate (w * h) Unknown) × AreLinesOf (cells_of_rows rows) rows columns
lines-unknown w h rows columns size er el =
    let wide : length columns ≡ w = ap length el ∙ length-replicate w (replicate h Unknown) in
    let high : length rows ≡ h = ap length er ∙ length-replicate h (replicate w Unknown) in
    let along = λ (first step n : ℕ). read-unknown (w * h) (strided_indices first step n) ∙
    ap (λ (k : ℕ). replicate k Unknown) (length-strided_indices first step n) in
    let are : AreLinesOf (replicate (w * h) Unknown) rows columns = search (rules, length-replicate, along, get_or-replicate) in
    let same = lines_cells (replicate (w * h) Unknown) rows columns are in
    (same, rw same are)

-- ---- unknown cells

-- an unknown cell of a row is an unknown cell of the grid
pub unknown-in_grid : (rows columns : List (List Cell)) (y x : ℕ) → AreLinesOf (cells_of_rows rows) rows columns → y < length rows →
    IsUnknownCell (get_or rows y []) x → (x < length columns) × IsUnknownCell (cells_of_rows rows) (y * length columns + x)
unknown-in_grid rows columns y x a ly u =
    let lx : x < length columns = omega (arith, u.0, (lines-long rows columns 0 y a a.size.width_from ly).0) in
    (lx, (cell_in (cells_of_rows rows) rows columns x y a lx ly, sym (cell-read rows columns x y a lx ly).0 ∙ u.1))

-- an unknown cell of the grid is an unknown cell of its row
pub unknown-in_row : (rows columns : List (List Cell)) (y x : ℕ) → AreLinesOf (cells_of_rows rows) rows columns → y < length rows →
    x < length columns → IsUnknownCell (cells_of_rows rows) (y * length columns + x) → IsUnknownCell (get_or rows y []) x
unknown-in_row rows columns y x a ly lx u =
    (omega (arith, lx, (lines-long rows columns x y a lx ly).0), (cell-read rows columns x y a lx ly).0 ∙ u.1)

-- what holds of the cells from `from` up to a column of row `y`, and of the row's cells from there up to column `end`,
-- holds of all cells from `from` up to column `end`
pub passed : (P : ℕ → Type 0) (w y column end from : ℕ) → ((k : ℕ) → from ≤ k → k < y * w + column → P k) →
    ((x : ℕ) → column ≤ x → x < end → P (y * w + x)) → (k : ℕ) → from ≤ k → k < y * w + end → P k
passed P w y column end from before here k low high = elim (cases_lt k (y * w + column)) [
  | inl early ↦ before k low early
  | inr late ↦ (let at : y * w + (k - y * w) ≡ k = omega arith in subst P at (here (k - y * w) (omega arith) (omega arith)))
]

-- ---- known cells

-- the rows together have as many known cells as the grid
pub known_by_rows : (rows : List (List Cell)) → sum_by (count_by is_known) rows ≡ count_by is_known (cells_of_rows rows)
known_by_rows [] = refl
known_by_rows (row ∷ rows) = search (rules, sum_by-cons, sum_by-append, (known_by_rows rows))

-- the number of known cells fits into 32 bits
pub few_known : (rows columns : List (List Cell)) → AreLinesOf (cells_of_rows rows) rows columns →
    sum_by (count_by is_known) rows < 2 ^ 32
few_known rows columns a = rw (known_by_rows rows) (let few = count_by-le-length is_known (cells_of_rows rows) in grind (arith, a, few))

-- ---- rows loaded from a grid

-- rows that are those of a grid, and columns with the same cells, are the lines of the grid
pub lines-read : (g : PartialGrid) (rows columns : List (List Cell)) → IsSize (length columns) (length rows) →
    length g.cells ≡ length columns * length rows → g.width ≡ length columns → ((y : ℕ) → y < length rows → get_or rows y [] ≡ row_of g y) →
    ((x : ℕ) → x < length columns → length (get_or columns x []) ≡ length rows) →
    ((x y : ℕ) → x < length columns → y < length rows → get_or (get_or columns x []) y Unknown ≡ get_or (get_or rows y []) x Unknown) →
    AreLinesOf g.cells rows columns
lines-read g rows columns size count wide rows_are long cells = record {
  size = size;
  count = count;
  rows_are = λ y ly.
      let same : length (get_or rows y []) ≡ w = ap length (rows_are y ly) ∙ length-row_of g y ∙ wide in
      ext_get_or Unknown (get_or rows y []) (cells_at Unknown g.cells (strided_indices (y * w) 1 w))
      (same ∙ sym (length-along g.cells (y * w) 1 w))
      (λ x h. let lx : x < w = omega (arith, h, same) in
      row_cell x y lx ly ∙ sym (get_or-along g.cells (y * w) 1 w x (y * w + x) lx (omega arith)));
  columns_are = λ x lx.
      ext_get_or Unknown (get_or columns x []) (cells_at Unknown g.cells (strided_indices x w (length rows)))
      (long x lx ∙ sym (length-along g.cells x w (length rows)))
      (λ y h. let ly : y < length rows = omega (arith, h, long x lx) in
      cells x y lx ly ∙ row_cell x y lx ly ∙ sym (get_or-along g.cells x w (length rows) y (y * w + x) ly (omega arith)));
}
  where
    w : ℕ
    w = length columns

    row_cell : (x y : ℕ) → x < length columns → y < length rows →
        get_or (get_or rows y []) x Unknown ≡ get_or g.cells (y * length columns + x) Unknown
    row_cell x y lx ly = rw (rows_are y ly, ← wide) (get_or-row_of g x y (omega (arith, lx, wide)))
