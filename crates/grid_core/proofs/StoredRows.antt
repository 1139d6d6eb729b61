-- The stored rows of a grid, and how they make up its cells.
use Rattle.grid_core.proofs.Names.{◌≡◌, ℕ, ◌+◌, ◌-◌, ◌*◌, ◌<◌, ◌≤◌, List, [], length, replicate, get_or, set, refl, arith, length-set, ext_get_or, length-map, get_or-map, length-append, length-replicate, get_or_append_left, get_or-append_right, get_or-replicate, append_assoc, append-nil, map-set, replicate-append-replicate, set-append_left, Cell, Unknown, Row, AreRowsOf, bit_at-zero, nat_tests, padded_rows, row_cells, rows_cells, unknown_row, PartialGrid, cells_of_rows, row_of, with_row}
use Rattle.std.proofs.lemmas.Grind.{elements}
use Rattle.grid_core.proofs.LineCells.{cells-none, length_line}
use Rattle.grid_core.specs.StoredRows.{AreRows, IsStoredRow}
use Rattle.grid_core.specs.PartialGrid.{IsSize}
use Rattle.grid_core.proofs.RowLists.{AreLong, cells-set_row, cells-unknown, length-rows, row_of-rows}

-- the grid of `w` by `h` cells that stores `rows`
abbrev pub stored_grid : ℕ → ℕ → List Row → PartialGrid
stored_grid w h rows = record { width = w; height = h; cells = cells_of_rows (rows_cells w (padded_rows h rows)) }

-- each row has `w` cells
rows-long : (w : ℕ) (rows : List Row) → AreLong w (rows_cells w rows)
rows-long w rows y l = grind (arith, get_or-map (row_cells w) rows y unknown_row [], length-map, length_line)

-- `padded_rows` has `h` rows
length-all : (h : ℕ) (rows : List Row) → length rows ≤ h → length (padded_rows h rows) ≡ h
length-all h rows l = grind (arith, length-append, length-replicate)

-- a grid has `w * h` cells
pub count-cells : (w h : ℕ) (rows : List Row) → length rows ≤ h → length (cells_of_rows (rows_cells w (padded_rows h rows))) ≡ w * h
count-cells w h rows l =
    let all = padded_rows h rows in grind (arith, length-rows w (rows_cells w all) (rows-long w all), length-map, length-all h rows)

-- row `y` of a grid has the cells of element `y` of `padded_rows`
row-is : (w h : ℕ) (rows : List Row) (y : ℕ) (row : Row) → length rows ≤ h → y < h → get_or (padded_rows h rows) y row ≡ row →
    row_cells w row ≡ row_of (stored_grid w h rows) y
row-is w h rows y row few l is =
    let all = padded_rows h rows in
    let within : y < length all = omega (arith, length-all h rows few) in
    let at = row_of-rows (stored_grid w h rows) (rows_cells w all) y (rows-long w all) (rw length-map within) refl in
    grind (arith, get_or-map (row_cells w) all y row [])

-- a stored row has the cells of the grid's row
pub row_written : (w h : ℕ) (rows : List Row) (y : ℕ) (row : Row) → length rows ≤ h → y < length rows → row ≡ get_or rows y row →
    row_cells w row ≡ row_of (stored_grid w h rows) y
row_written w h rows y row few l is = grind (arith, row-is w h rows y row, get_or_append_left)

-- a row below the stored ones has unknown cells
pub row_unknown : (w h : ℕ) (rows : List Row) (y : ℕ) → length rows ≤ h → length rows ≤ y → y < h →
    replicate w Unknown ≡ row_of (stored_grid w h rows) y
row_unknown w h rows y few from l = grind (arith, row-is w h rows y unknown_row, cells-none, get_or-append_right, get_or-replicate)

-- the row of unknown cells is a row of `w` cells
unknown_is : (w : ℕ) → 1 ≤ w → w ≤ 256 → IsStoredRow w unknown_row
unfolding IsStoredRow
unknown_is w some short = grind (arith, nat_tests, bit_at-zero)

-- a grid that stores no row has unknown cells
pub none_written : (w h : ℕ) (rows : List Row) → rows ≡ [] →
    stored_grid w h rows ≡ record { width = w; height = h; cells = replicate (w * h) Unknown }
none_written w h rows e = grind (arith, cells-unknown (row_cells w) unknown_row w h, cells-none)

-- appending unknown rows, up to `n` rows, doesn't change the grid's rows
filled-up : (h n : ℕ) (rows : List Row) → n ≤ h → padded_rows h (padded_rows n rows) ≡ padded_rows h rows
filled-up h n rows l = grind (arith, append_assoc, length-append, length-replicate, replicate-append-replicate)

-- replacing one stored row by a line's cells replaces that row of the grid
pub one_written : (w h : ℕ) (rows filled : List Row) (y : ℕ) (row : Row) (line : List Cell) → length rows ≤ h → y < h →
    filled ≡ padded_rows (y + 1) rows → row_cells w row ≡ line →
    stored_grid w h (set filled y row) ≡ with_row (stored_grid w h rows) y line
one_written w h rows filled y row line few l is cells =
    let all : padded_rows h (set filled y row) ≡ set (padded_rows h rows) y row =
    grind (arith, length-set, set-append_left, length-append, length-replicate, filled-up h (y + 1) rows) in
    grind (arith, all, map-set, cells-set_row w (rows_cells w (padded_rows h rows)) y line, rows-long w, length-map, length-all)

-- replacing one stored row preserves the invariant of the stored rows
pub rows_written : (w h n y capacity : ℕ) (rows : List Row) (row : Row) → IsSize w h → AreRows w h rows capacity → n ≤ h
    → IsStoredRow w row → AreRows w h (set (padded_rows n rows) y row) capacity
rows_written w h n y capacity rows row size are l is =
    let none = unknown_is w size.width_from size.width_to in grind (arith, elements)

-- a grid that stores a row for each line has the cells of the lines
pub all_written : (w h : ℕ) (rows : List Row) (lines : List (List Cell)) → length lines ≡ h → AreLong w lines
    → AreRowsOf lines rows → stored_grid w h rows ≡ record { width = w; height = h; cells = cells_of_rows lines }
all_written w h rows lines tall wide are =
    let none : h - length rows ≡ 0 = omega (arith, are.count) in
    let same : rows_cells w rows ≡ lines =
    ext_get_or [] (rows_cells w rows) lines (rw length-map are.count) (λ y l.
    grind (arith, get_or-map (row_cells w) rows y unknown_row [], length-map, are.cells y, wide y)) in
    grind (arith, append-nil)

pub ruleset counted = (count-cells)
