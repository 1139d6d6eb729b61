-- The rows in the text of a grid.
use Rattle.std.proofs.Common.{◌≡◌, ℕ, zero, suc, ◌+◌, ◌*◌, ◌<◌, ◌≤◌, List, [], ◌∷◌, ◌++◌, length, take, drop, map, ap, ◌∙◌, codes, arith, mul-le-mul_right, zero-add, rules, append_assoc, lit<, sym, length-append, take_at, drop_at, drop-drop}
use Rattle.std.specs.List.{flat_map, range_with_len}
use Rattle.std.specs.Str.{IsAscii, IsUtf8}
use Rattle.std.proofs.lemmas.List.FromFn.{length-range_with_len}
use Rattle.std.proofs.lemmas.List.{length-map}
use Rattle.std.proofs.lemmas.Str.{IsUtf8-from_ascii}
use Rattle.grid_core.specs.declared.cells.Cell.{Cell}
use Rattle.grid_core.specs.declared.cells.Cell.TheVariants.{Unknown, Filled, Blank}
use Rattle.grid_core.specs.PartialGrid.{PartialGrid}
use Rattle.grid_core.specs.Rows.{row_of}
use Rattle.survey_text.specs.Grids.{cell_byte, grid_text}
use Rattle.survey_json.specs.Pictures.{grid_row}

-- `n` lines of text, each of them one of `row` and LF
abbrev lines_from : (ℕ → List ℕ) → ℕ → ℕ → List ℕ
lines_from row a n = flat_map (λ y. row y ++ codes "\n") (range_with_len a n)

-- the length of lines of one length
length-lines : (row : ℕ → List ℕ) (w a n : ℕ) → ((y : ℕ) → length (row y) ≡ w) → length (lines_from row a n) ≡ n * (w + 1)
length-lines row w a zero same = omega arith
length-lines row w a (suc n) same =
    grind (arith, length-append, same a, length-lines row w (a + 1) n same)

-- one of several lines of one length
line_at : (row : ℕ → List ℕ) (w a n y : ℕ) → ((y : ℕ) → length (row y) ≡ w) → y < n
    → take w (drop (y * (w + 1)) (lines_from row a n)) ≡ row (a + y)
line_at row w a zero y same within = absurd (omega (arith, within))
line_at row w a (suc n) zero same within =
    let here : a + 0 ≡ a = omega arith in
    let start : 0 * (w + 1) ≡ 0 = omega arith in
    rw (here, start) (ap (take w) (append_assoc (row a) (codes "\n") (lines_from row (a + 1) n)) ∙ take_at (row a) (codes "\n" ++ lines_from row (a + 1) n) w (same a))
line_at row w a (suc n) (suc y) same within =
    let first = row a ++ codes "\n" in
    let long : length first ≡ w + 1 = length-append (row a) (codes "\n") ∙ ap (λ (k : ℕ). k + 1) (same a) in
    let size : suc y * (w + 1) ≡ (w + 1) + y * (w + 1) = omega arith in
    let next : a + suc y ≡ (a + 1) + y = omega arith in
    rw (size, next)
    (ap (take w) (sym (drop-drop (y * (w + 1)) (w + 1) (first ++ lines_from row (a + 1) n))
    ∙ ap (drop (y * (w + 1))) (drop_at first (lines_from row (a + 1) n) (w + 1) long))
    ∙ line_at row w (a + 1) n y same (omega (arith, within)))

-- the bytes of cells are ASCII
cells_are_ascii : (cells : List Cell) → IsAscii (map cell_byte cells)
cells_are_ascii [] i = lit< tt
cells_are_ascii (Unknown ∷ cells) zero = lit< tt
cells_are_ascii (Filled ∷ cells) zero = lit< tt
cells_are_ascii (Blank ∷ cells) zero = lit< tt
cells_are_ascii (cell ∷ cells) (suc i) = cells_are_ascii cells i

-- a row has as many bytes as the grid is wide
length-grid_row : (g : PartialGrid) (y : ℕ) → length (grid_row g y) ≡ g.width
length-grid_row g y = length-map (row_of g y) cell_byte ∙ length-map (range_with_len 0 g.width) _ ∙ length-range_with_len 0 g.width

-- row `y` is within the text of the grid
pub row_within : (g : PartialGrid) (y : ℕ) → y < g.height → y * (g.width + 1) + g.width ≤ length (grid_text g)
row_within g y within =
    let all : length (grid_text g) ≡ g.height * (g.width + 1) = length-lines (grid_row g) g.width 0 g.height (length-grid_row g) in
    let most : (y + 1) * (g.width + 1) ≤ g.height * (g.width + 1) = search (rules, mul-le-mul_right, within) in
    omega (arith, all, most)

-- row `y` in the text of the grid
pub row_at : (g : PartialGrid) (y : ℕ) → y < g.height → take g.width (drop (y * (g.width + 1)) (grid_text g)) ≡ grid_row g y
row_at g y within = line_at (grid_row g) g.width 0 g.height y (length-grid_row g) within ∙ ap (grid_row g) (zero-add y)

-- a row is UTF-8
pub row_is_utf8 : (g : PartialGrid) (y : ℕ) → IsUtf8 (grid_row g y)
row_is_utf8 g y = IsUtf8-from_ascii (grid_row g y) (cells_are_ascii (row_of g y))
