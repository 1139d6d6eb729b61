-- The lines of a grid, by axis and number.
use Rattle.solve_core.proofs.Names.{◌≡◌, ℕ, zero, suc, ◌+◌, ◌*◌, ◌<◌, inl, inr, List, [], ◌∷◌, ◌/◌, ◌%◌, ◌∙◌, sym, length, get_or, refl, ap, arith, AllByRecursion, div-mul-add, mod-mul-add, recursion_from_All, Axis, Rows, Columns, Nonogram, IsNonogram, GridLine, lines_of, clues_on, crossing, line_on, line_indices, column_on, line_count, cell_index_on, row_on, all_lines, each_line, index-within, length-line_indices, get_or-line_indices, rules, Cell, Unknown, cells_at, set}
use Rattle.solve_core.proofs.StepLaws.{IsOneOf}
use Rattle.solve_core.proofs.LineSteps.{cells_at-set, AreDistinct, AreBelow, distinct_from, below_from}

-- a cell index determines the row and the column of the cell
pub unique_place : (w y j a b : ℕ) → a < w → b < w → y * w + a ≡ j * w + b → (y ≡ j) × (a ≡ b)
unique_place w y j a b h k e = (
  sym (div-mul-add y w a h) ∙ ap (λ (q : ℕ). q / w) e ∙ div-mul-add j w b k,
  sym (mod-mul-add y w a h) ∙ ap (λ (q : ℕ). q % w) e ∙ mod-mul-add j w b k,
)

-- the index of a row's cell is within the grid
pub row_within : (w h y i : ℕ) → y < h → i < w → y * w + i * 1 < w * h
row_within w h y i a b = omega (arith, index-within w h i y b a)

-- the index of a column's cell is within the grid
pub column_within : (w h x i : ℕ) → x < w → i < h → x + i * w < w * h
column_within w h x i a b = omega (arith, index-within w h x i a b)

-- what holds for an axis and for the crossing axis holds for each axis
pub by_axis : (P : Axis → Type 0) (axis : Axis) → P axis → P (crossing axis) → (s : Axis) → P s
by_axis P axis h k s = search rules

-- the column and the row of a line's cell are within the grid
pub cell_in : (axis : Axis) (w h i k : ℕ) → i < line_count axis w h → k < line_count (crossing axis) w h →
    (column_on axis i k < w) × (row_on axis i k < h)
cell_in axis w h i k l m = search rules

-- the axis that crosses the crossing axis is the axis itself
pub crossing_twice : (axis : Axis) → crossing (crossing axis) ≡ axis
crossing_twice axis = search rules

-- a cell index determines the line of an axis and the index along that line
pub same_place : (axis : Axis) (w h i k j m : ℕ) → i < line_count axis w h → k < line_count (crossing axis) w h → j < line_count axis w h →
    m < line_count (crossing axis) w h → cell_index_on axis w i k ≡ cell_index_on axis w j m → (i ≡ j) × (k ≡ m)
same_place Rows w h i k j m li lk lj lm e = unique_place w i j k m lk lm e
same_place Columns w h i k j m li lk lj lm e = let same = unique_place w k m i j li lj e in (same.1, same.0)

-- the `k`-th cell index of a line
pub along : (axis : Axis) (w h i k : ℕ) → k < length (line_indices axis w h i) →
    (k < line_count (crossing axis) w h) × (get_or (line_indices axis w h i) k 0 ≡ cell_index_on axis w i k)
along axis w h i k l = search (rules, length-line_indices, get_or-line_indices)

-- the `k`-th cell index of a line of the crossing axis
pub across : (axis : Axis) (w h i k : ℕ) → k < length (line_indices (crossing axis) w h i) →
    (k < line_count axis w h) × (get_or (line_indices (crossing axis) w h i) k 0 ≡ cell_index_on axis w k i)
across Rows w h i k l = along Columns w h i k l
across Columns w h i k l = along Rows w h i k l

-- the cell indices of a line are distinct, if the grid has a column
pub distinct_indices : (axis : Axis) (w h i : ℕ) → 0 < w → AreDistinct (line_indices axis w h i)
distinct_indices axis w h i k = search (rules, distinct_from)

-- the cell indices of a line are within the grid
pub below_indices : (axis : Axis) (w h i : ℕ) → i < line_count axis w h → AreBelow (w * h) (line_indices axis w h i)
below_indices Rows w h i l = below_from (i * w) 1 w (w * h) (λ k m. row_within w h i k l m)
below_indices Columns w h i l = below_from i w h (w * h) (λ k m. column_within w h i k l m)

-- writing a cell into the grid writes it into its line
pub line-set : (axis : Axis) (w h i k at : ℕ) (cells : List Cell) (c : Cell) → 0 < w → i < line_count axis w h →
    k < line_count (crossing axis) w h → at ≡ cell_index_on axis w i k → length cells ≡ w * h →
    cells_at Unknown (set cells at c) (line_indices axis w h i) ≡ set (cells_at Unknown cells (line_indices axis w h i)) k c
line-set axis w h i k at cells c some li lk e size =
    rw (e, sym (get_or-line_indices axis w h i k lk)) (cells_at-set cells (line_indices axis w h i) k c (distinct_indices axis w h i some)
    (rw size (below_indices axis w h i li)) (rw (length-line_indices axis w h i) lk))

-- there is a clue for each line of an axis
pub count_clues : (axis : Axis) (p : Nonogram) → IsNonogram p → length (clues_on axis p) ≡ line_count axis p.width p.height
count_clues axis p h = search rules

-- what holds of each line of each axis holds of all lines of the puzzle
pub all_axes : (P : GridLine → Type 0) (p : Nonogram) → IsNonogram p →
    ((axis : Axis) (i : ℕ) → i < line_count axis p.width p.height → P (line_on axis p i)) → AllByRecursion P (lines_of p)
all_axes P p is h = recursion_from_All P (lines_of p)
    (all_lines P p (λ y l. h Rows y (omega (arith, is.clues.0))) (λ x l. h Columns x (omega (arith, is.clues.1))))

one_at : (lines : List GridLine) (n : ℕ) (d : GridLine) → n < length lines → IsOneOf (get_or lines n d) lines
one_at [] n d l = absurd (omega arith)
one_at (x ∷ lines) zero d l = inl refl
one_at (x ∷ lines) (suc n) d l = inr (one_at lines n d (omega arith))

-- each line of an axis is one of the puzzle's lines
pub line_is_one : (axis : Axis) (p : Nonogram) (i : ℕ) → IsNonogram p → i < line_count axis p.width p.height →
    IsOneOf (line_on axis p i) (lines_of p)
line_is_one axis p i is l =
    each_line (λ line. IsOneOf line (lines_of p)) p (λ n d m. one_at (lines_of p) n d m) axis i (omega (arith, count_clues axis p is))
