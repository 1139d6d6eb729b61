-- The lines of a puzzle by axis and number, and the cells along a line.
use Rattle.grid_core.proofs.Names.{◌≡◌, refl, sym, ℕ, zero, suc, ◌+◌, ◌*◌, ◌<◌, ◌≤◌, false, List, [], length, map, get_or, take, drop, arith, ext_get_or, length-drop, get_or-drop, get_or-take, mul-le-mul_right, drop-append_seam, take-append_seam, get_or-map, length-map, length-take-le, length-enumerate_from, get_or-enumerate_from, All, enumerate_from, Rows, Columns, GridLine, Nonogram, cells_at, clues_on, crossing, line_on, lines_of, numbered_line, strided_indices, line_indices}
use Rattle.std.proofs.lemmas.List.Elements.{All-append, All-drop, All-get_or, All-take}
use Rattle.grid_core.specs.declared.axes.Axis.{Axis}
use Rattle.grid_core.specs.Indexing.{RowIsRange}
use Rattle.grid_core.specs.steps.Axes.{line_count, cell_index_on}

abbrev lines_on : Axis → Nonogram → List GridLine
lines_on axis p = map (numbered_line axis p) (enumerate_from 0 (clues_on axis p))

-- element `i` of the list of an axis's lines is line `i` of the axis
at : (axis : Axis) (p : Nonogram) (i : ℕ) (d : GridLine) → i < length (clues_on axis p) → get_or (lines_on axis p) i d ≡ line_on axis p i
at axis p i d l =
    let numbered = enumerate_from 0 (clues_on axis p) in
    grind (arith, length-enumerate_from, get_or-map (numbered_line axis p) numbered i (0, []), get_or-enumerate_from)

all_on : (P : GridLine → Type 0) (p : Nonogram) (axis : Axis) → ((i : ℕ) → i < length (clues_on axis p) → P (line_on axis p i))
    → All P (lines_on axis p)
all_on P p axis each i d h = let within = rw (length-map, length-enumerate_from) at h in rw (at axis p i d within) (each i within)

-- what holds of each row and of each column holds of each line
pub all_lines : (P : GridLine → Type 0) (p : Nonogram) → ((y : ℕ) → y < length p.rows → P (line_on Rows p y)) →
    ((x : ℕ) → x < length p.columns → P (line_on Columns p x)) → All P (lines_of p)
all_lines P p r c = All-append P (lines_on Rows p) (lines_on Columns p) (all_on P p Rows r) (all_on P p Columns c)

-- what holds of each line holds of line `i` of an axis
pub each_line : (P : GridLine → Type 0) (p : Nonogram) → All P (lines_of p) → (axis : Axis) (i : ℕ) → i < length (clues_on axis p) →
    P (line_on axis p i)
each_line P p h axis i l =
    let d = line_on axis p i in
    rw (at axis p i d l) at (All-get_or P (lines_on axis p) i d (rw (length-map, length-enumerate_from) l) (part axis))
  where
    part : (s : Axis) → All P (lines_on s p)
    part Rows = rw take-append_seam at (All-take P (length (lines_on Rows p)) (lines_of p) h)
    part Columns = rw drop-append_seam at (All-drop P (length (lines_on Rows p)) (lines_of p) h)

pub length-strided_indices : (first step n : ℕ) → length (strided_indices first step n) ≡ n
length-strided_indices first step zero = refl
length-strided_indices first step (suc n) = grind (arith, length-strided_indices (first + step) step n)

pub get_or-strided_indices : (first step n i : ℕ) → i < n → get_or (strided_indices first step n) i 0 ≡ first + i * step
get_or-strided_indices first step zero i h = absurd (omega arith)
get_or-strided_indices first step (suc n) zero h = omega arith
get_or-strided_indices first step (suc n) (suc i) h = omega (arith, get_or-strided_indices (first + step) step n i (omega arith))

-- a line has as many cells as there are lines that cross it
pub length-line_indices : (axis : Axis) (w h i : ℕ) → length (line_indices axis w h i) ≡ line_count (crossing axis) w h
length-line_indices Rows w h i = length-strided_indices (i * w) 1 w
length-line_indices Columns w h i = length-strided_indices i w h

-- the index of cell `k` of line `i`
pub get_or-line_indices : (axis : Axis) (w h i k : ℕ) → k < line_count (crossing axis) w h →
    get_or (line_indices axis w h i) k 0 ≡ cell_index_on axis w i k
get_or-line_indices Rows w h i k l = grind (arith, get_or-strided_indices)
get_or-line_indices Columns w h i k l = grind (arith, get_or-strided_indices)

pub length-cells_at : {X : Type 0} (d : X) (cells : List X) (indices : List ℕ) → length (cells_at d cells indices) ≡ length indices
length-cells_at d cells indices = length-map indices (λ k. get_or cells k d)

pub get_or-cells_at : {X : Type 0} (d : X) (cells : List X) (indices : List ℕ) (i : ℕ) → i < length indices
    → get_or (cells_at d cells indices) i d ≡ get_or cells (get_or indices i 0) d
get_or-cells_at d cells indices i h = get_or-map (λ k. get_or cells k d) indices i 0 d h

-- a list that has, at each index, the cell at that position of a line is the list of the line's cells
pub cells-along : {X : Type 0} (d : X) (cells line : List X) (first step count : ℕ) → length line ≡ count
    → ((k : ℕ) → k < count → get_or line k d ≡ get_or cells (first + k * step) d)
    → line ≡ cells_at d cells (strided_indices first step count)
cells-along d cells line first step count e h =
    ext_get_or d line (cells_at d cells (strided_indices first step count)) (grind (arith, length-cells_at, length-strided_indices)) (λ k l.
    grind (arith, get_or-cells_at, length-strided_indices, get_or-strided_indices, h k))

-- row `y` ends within a grid of `w` columns and `h` rows, if `y < h`
pub row-within : (w h y : ℕ) → y < h → y * w + w ≤ w * h
row-within w h y l = omega (arith, mul-le-mul_right w l)

-- the cell in column `x` and row `y` is within a grid of `w` columns and `h` rows, if `x < w` and `y < h`
pub index-within : (w h x y : ℕ) → x < w → y < h → y * w + x < w * h
index-within w h x y k l = omega (arith, row-within w h y l)

-- the cells of each row are a range of the cells of the grid
pub row-is_range : (p : Nonogram) → RowIsRange p
row-is_range p full y long l =
    let fits = row-within p.width p.height y l in
    let row = take p.width (drop (y * p.width) full) in
    sym (cells-along false full row (y * p.width) 1 p.width (grind (arith, length-take-le, length-drop)) (λ k h.
    grind (arith, get_or-take, get_or-drop)))

-- the rules by which the cells of a row are a range, and those of a column are `w` apart
pub ruleset lines_lie = (row-is_range, length-cells_at, length-strided_indices, get_or-cells_at, get_or-strided_indices, index-within)
