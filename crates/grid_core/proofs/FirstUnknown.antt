-- The first unknown cell of a list, and of a grid by its rows.
use Rattle.grid_core.proofs.Names.{◌≡◌, ℕ, ◌+◌, ◌-◌, ◌*◌, ◌/◌, ◌%◌, ◌<◌, ◌≤◌, true, false, List, [], ◌∷◌, length, get_or, Option, Some, None, is_some, inl, not, ◌⊎◌, refl, arith, list_all, position, position_or_len, nat_tests, rows, Cell, Unknown, is_known, is_unknown, IsUnknownFrom, PartialGrid, row_of}
use Rattle.std.specs.Option.{option_map}
use Rattle.std.proofs.lemmas.Bool.{lt-ltb, le-ltb}
use Rattle.std.proofs.lemmas.List.Sums.{position_or_len_is}
use Rattle.grid_core.proofs.LineLaws.{index-within}
use Rattle.grid_core.proofs.RowLists.{get_or-row_of, length-row_of}

-- `i` is the index of the first unknown cell if the cell there is unknown and none before it is
pub position_some : (xs : List Cell) (i : ℕ) → i < length xs → get_or xs i Unknown ≡ Unknown →
    ((k : ℕ) → k < i → is_unknown (get_or xs k Unknown) ≡ false) → position is_unknown xs ≡ Some i
position_some xs i h here before = grind (arith, position_or_len_is is_unknown xs i Unknown, lt-ltb)

-- if no cell is unknown, `position` finds none
pub position_none : (xs : List Cell) → ((k : ℕ) → k < length xs → is_unknown (get_or xs k Unknown) ≡ false) → position is_unknown xs ≡ None
position_none xs known = grind (arith, position_or_len_is is_unknown xs (length xs) Unknown, le-ltb)

-- all cells are known and `position_or_len` is the length, or some aren't and it is less
first_or_all : (xs : List Cell) → (position_or_len is_unknown xs ≡ length xs) × (list_all is_known xs ≡ true)
    ⊎ (position_or_len is_unknown xs < length xs) × (list_all is_known xs ≡ false)
first_or_all [] = inl (refl, refl)
first_or_all (cell ∷ xs) = grind (arith, first_or_all xs)

-- an unknown cell is found exactly if not all cells are known
pub unknown_or_all : {X : Type 0} (f : ℕ → X) (found : Option X) (xs : List Cell) → found ≡ option_map f (position is_unknown xs)
    → is_some found ≡ not (list_all is_known xs)
unknown_or_all f found xs e = rw e (grind (arith, nat_tests, first_or_all xs))

-- ---- the rows of a grid

-- if no cell above row `y` is unknown, and none of the first `x` cells of that row, then none before the next one is
known-more : (g : PartialGrid) (y x : ℕ) → x ≤ g.width → ((k : ℕ) → k < y * g.width → is_unknown (get_or g.cells k Unknown) ≡ false)
    → ((k : ℕ) → k < x → is_unknown (get_or (row_of g y) k Unknown) ≡ false) → (k : ℕ) → k < y * g.width + x →
    is_unknown (get_or g.cells k Unknown) ≡ false
known-more g y x h above here k l = grind (arith, above k, here (k - y * g.width), get_or-row_of g (k - y * g.width) y)

-- if no cell above row `y` is unknown, and none of the row, then none up to the row's end is
pub known-row : (g : PartialGrid) (y : ℕ) (row : List Cell) → row ≡ row_of g y → IsUnknownFrom row 0 None
    → ((k : ℕ) → k < y * g.width → is_unknown (get_or g.cells k Unknown) ≡ false) → (k : ℕ) → k < (y + 1) * g.width
    → is_unknown (get_or g.cells k Unknown) ≡ false
known-row g y row e none above k l = known-more g y g.width (omega arith) above (grind (arith, length-row_of)) k (omega arith)

-- if no cell above row `y` is unknown, the first unknown cell of the row is the first one of the grid
pub first_in_row : (g : PartialGrid) (y x : ℕ) (row : List Cell) → row ≡ row_of g y → y < g.height → length g.cells ≡ g.width * g.height
    → ((k : ℕ) → k < y * g.width → is_unknown (get_or g.cells k Unknown) ≡ false) → IsUnknownFrom row 0 (Some x)
    → option_map {U = ℕ × ℕ} (λ k. (k % g.width, k / g.width)) (position is_unknown g.cells) ≡ Some (x, y)
first_in_row g y x row e ly count above found =
    let lx : x < g.width = rw (e, length-row_of) at found.1 in
    let here = rw (e, get_or-row_of g x y lx) at found.2 in
    let before = known-more g y x (omega arith) above (grind arith) in
    let first = position_some g.cells (y * g.width + x) (omega (arith, index-within g.width g.height x y lx ly)) here before in
    rw first (grind (arith, rows))
