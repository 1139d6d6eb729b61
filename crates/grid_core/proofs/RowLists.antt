-- The rows of a grid, and the list of all their cells.
use Rattle.grid_core.proofs.Names.{◌≡◌, ℕ, zero, suc, ◌+◌, ◌-◌, ◌*◌, ◌<◌, List, [], ◌∷◌, ◌++◌, length, map, take, drop, get_or, set, replicate, refl, sym, ◌∙◌, arith, zero-add, length-append, length-drop, length-set, ap, get_or-drop, get_or-take, ext_get_or, ◌≤◌, take-append-add, drop-append-add, append_assoc, drop-drop, length-take-le, set-append_left, set-append_right, take-append-drop, get_or_append_left, get_or-append_right, replicate-append-replicate, length-map-range_with_len, get_or-map-range_with_len, Cell, Unknown, PartialGrid, cell_at, cells_of_rows, row_of, with_row}

-- each of `rows` has `w` cells
abbrev pub AreLong : ℕ → List (List Cell) → Type 0
AreLong w rows = (y : ℕ) → y < length rows → length (get_or rows y []) ≡ w

-- if each row has `w` cells, the number of all cells is the number of rows times `w`
pub length-rows : (w : ℕ) (rows : List (List Cell)) → AreLong w rows → length (cells_of_rows rows) ≡ length rows * w
length-rows w [] h = omega arith
length-rows w (row ∷ rows) h = grind (arith, length-append, h 0, length-rows w rows (λ y l. h (suc y) (omega arith)))

-- cell `x` of row `y` is the one at index `y * w + x` of all cells
pub get_or-rows : (w : ℕ) (rows : List (List Cell)) (y x : ℕ) → AreLong w rows → y < length rows → x < w
    → get_or (cells_of_rows rows) (y * w + x) Unknown ≡ get_or (get_or rows y []) x Unknown
get_or-rows w [] y x h l m = absurd (omega arith)
get_or-rows w (row ∷ rows) zero x h l m = grind (arith, get_or_append_left row (cells_of_rows rows) Unknown x, h 0)
get_or-rows w (row ∷ rows) (suc y) x h l m =
    let next = get_or-rows w rows y x (λ k n. h (suc k) (omega arith)) (omega arith) m in
    grind (arith, get_or-append_right row (cells_of_rows rows) w (suc y * w + x) Unknown, h 0)

-- if row `y` is replaced, the cells are those before it, the new ones, and those after it
pub cells-set_row : (w : ℕ) (rows : List (List Cell)) (y : ℕ) (row : List Cell) → AreLong w rows → y < length rows →
    cells_of_rows (set rows y row) ≡ take (y * w) (cells_of_rows rows) ++ row ++ drop (y * w + w) (cells_of_rows rows)
cells-set_row w [] y row h l = absurd (omega arith)
cells-set_row w (r ∷ rows) zero row h l =
    let none : 0 * w ≡ 0 = omega arith in
    let past : 0 * w + w ≡ length r + 0 = omega (arith, h 0 (omega arith)) in rw (past, none, drop-append-add) refl
cells-set_row w (r ∷ rows) (suc y) row h l =
    let long : length r ≡ w = h 0 (omega arith) in
    let before : suc y * w ≡ length r + y * w = omega arith in
    let past : suc y * w + w ≡ length r + (y * w + w) = omega arith in
    let next = cells-set_row w rows y row (λ k n. h (suc k) (omega arith)) (omega arith) in
    rw (past, before, take-append-add, drop-append-add, next) (simp append_assoc)

-- `h` rows of `w` unknown cells each have `w * h` unknown cells
pub cells-unknown : {X : Type 0} (cells : X → List Cell) (row : X) (w h : ℕ) → cells row ≡ replicate w Unknown →
    cells_of_rows (map cells (replicate h row)) ≡ replicate (w * h) Unknown
cells-unknown cells row w zero e = grind arith
cells-unknown cells row w (suc h) e = grind (arith, cells-unknown cells row w h e, replicate-append-replicate)

-- a row of a grid has as many cells as the grid has columns
pub length-row_of : (g : PartialGrid) (y : ℕ) → length (row_of g y) ≡ g.width
length-row_of g y = length-map-range_with_len (λ (x : ℕ). cell_at g x y) 0 g.width

-- cell `x` of row `y` of a grid is its cell in column `x` and row `y`
pub get_or-row_of : (g : PartialGrid) (x y : ℕ) → x < g.width → get_or (row_of g y) x Unknown ≡ cell_at g x y
get_or-row_of g x y l = get_or-map-range_with_len (λ (k : ℕ). cell_at g k y) 0 g.width x x Unknown l (zero-add x)

pub ruleset rows_read = (length-row_of, get_or-row_of, length-set)

-- if a grid has the cells of `rows`, its row `y` is element `y` of them
pub row_of-rows : (g : PartialGrid) (rows : List (List Cell)) (y : ℕ) → AreLong g.width rows → y < length rows →
    g.cells ≡ cells_of_rows rows → get_or rows y [] ≡ row_of g y
row_of-rows g rows y long l same =
    ext_get_or Unknown (get_or rows y []) (row_of g y) (grind (arith, length-row_of, long y)) (λ x h.
    grind (arith, get_or-row_of g x y, get_or-rows g.width rows y x long, long y))

-- ---- replacing a cell of a row

-- row `y` is a range of the grid's cells
row_of-part : (g : PartialGrid) (y : ℕ) → y * g.width + g.width ≤ length g.cells
    → row_of g y ≡ take g.width (drop (y * g.width) g.cells)
row_of-part g y fits =
    let row = take g.width (drop (y * g.width) g.cells) in
    ext_get_or Unknown (row_of g y) row (grind (arith, length-row_of, length-take-le, length-drop)) (λ x h.
    grind (arith, get_or-row_of g x y, length-row_of, get_or-take, get_or-drop))

-- replacing a cell of a row replaces that cell of the grid
pub row-set : (g : PartialGrid) (x y : ℕ) (c : Cell) → x < g.width → y * g.width + g.width ≤ length g.cells →
    with_row g y (set (row_of g y) x c) ≡ record g { cells = set g.cells (y * g.width + x) c }
row-set g x y c l fits =
    let a = y * g.width in
    let front = take a g.cells in
    let rest = drop (a + g.width) g.cells in
    let whole : front ++ (row_of g y ++ rest) ≡ g.cells =
    rw (row_of-part g y fits, ← drop-drop g.width a g.cells, take-append-drop, take-append-drop) refl in
    let past = set-append_right front (row_of g y ++ rest) a (a + x) c in
    grind (arith, length-take-le, length-row_of, set-append_left (row_of g y) rest x c, append_assoc)
