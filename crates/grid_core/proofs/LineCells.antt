-- The cells of a line that is stored as two bit sets.
use Rattle.grid_core.proofs.Names.{◌≡◌, ℕ, ◌<◌, ◌≤◌, Bool, true, false, nat_eq, cond, List, length, get_or, set, refl, sym, ◌∙◌, arith, zero-add, ext_get_or, length-set, replicate, nat_tests, common_steps, length-replicate, get_or-replicate, bit_at-zero, length-map-range_with_len, get_or-map-range_with_len, Cell, Unknown, Filled, Blank, is_filled, is_known, Has, has, IsWithBit, IsMaskOf, cell_with, line_cells, is_blank}

-- the cell at index `i`, by the masks
pub cell_at : (len filled blank i : ℕ) → i < len → get_or (line_cells len filled blank) i Unknown ≡ cell_with (has filled i) (has blank i)
cell_at len filled blank i h =
    get_or-map-range_with_len (λ (k : ℕ). cell_with (has filled k) (has blank k)) 0 len i i Unknown h (zero-add i)

-- `line_cells` has `len` cells
pub length_line : (len filled blank : ℕ) → length (line_cells len filled blank) ≡ len
length_line len filled blank = length-map-range_with_len (λ (k : ℕ). cell_with (has filled k) (has blank k)) 0 len

-- the length of a list `l` that is a line's cells
pub length_seen : (len filled blank : ℕ) (l : List Cell) → line_cells len filled blank ≡ l → length l ≡ len
length_seen len filled blank l e = grind (arith, length_line)

-- the cell at index `i` of a list `l` that is a line's cells
pub seen_at : (len filled blank i : ℕ) (l : List Cell) → line_cells len filled blank ≡ l → i < length l
    → get_or l i Unknown ≡ cell_with (has filled i) (has blank i)
seen_at len filled blank i l e h = grind (arith, cell_at, length_line)

-- a cell is filled exactly if its first test is true
pub filled_told : (f b : Bool) → is_filled (cell_with f b) ≡ f
filled_told f b = grind arith

-- a cell is blank exactly if its second test is true, unless both are
pub blank_told : (f b : Bool) → (f ≡ true → b ≡ true → ⊥) → is_blank (cell_with f b) ≡ b
blank_told f b n = grind arith

-- a line's cells are the list `l` if they are at each index, by the masks
pub line_is : (len filled blank : ℕ) (l : List Cell) → length l ≡ len
    → ((i : ℕ) → i < len → get_or l i Unknown ≡ cell_with (has filled i) (has blank i)) → line_cells len filled blank ≡ l
line_is len filled blank l e same =
    ext_get_or Unknown (line_cells len filled blank) l (length_line len filled blank ∙ sym e) (λ i h.
    grind (arith, cell_at, length_line, same i))

-- ---- one cell changed

-- the membership of an index in a mask, by an implication in each direction
pub has_by : (m i : ℕ) (b : Bool) → (Has m i → b ≡ true) → (b ≡ true → Has m i) → has m i ≡ b
has_by m i b to from = grind (arith, nat_tests)

filled_is : (c : Cell) → is_filled c ≡ true → c ≡ Filled
filled_is c e = grind arith

blank_is : (c : Cell) → is_blank c ≡ true → c ≡ Blank
blank_is c e = grind arith

-- the membership of an index in the set of a line's filled cells
pub has_filled : (m : ℕ) (l : List Cell) → IsMaskOf (λ i. get_or l i Unknown ≡ Filled) m → (i : ℕ) → has m i ≡ is_filled (get_or l i Unknown)
has_filled m l set i = has_by m i (is_filled (get_or l i Unknown)) (λ h. rw (set.to i h) refl) (λ e. set.from i (filled_is _ e))

-- the membership of an index in the set of a line's blank cells
pub has_blank : (m : ℕ) (l : List Cell) → IsMaskOf (λ i. get_or l i Unknown ≡ Blank) m → (i : ℕ) → has m i ≡ is_blank (get_or l i Unknown)
has_blank m l set i = has_by m i (is_blank (get_or l i Unknown)) (λ h. rw (set.to i h) refl) (λ e. set.from i (blank_is _ e))

-- each cell is determined by whether it is filled and whether it is blank
pub cell_itself : (c : Cell) → cell_with (is_filled c) (is_blank c) ≡ c
cell_itself c = grind arith

-- the masks `nf` and `nb` are those of the line with cell `c` at index `p` if they are so at each index
pub cells-set : (len f b nf nb p : ℕ) (c : Cell) (l : List Cell) → line_cells len f b ≡ l → p < length l
    → ((i : ℕ) → i < len → cell_with (has nf i) (has nb i) ≡ cond (nat_eq i p) c (cell_with (has f i) (has b i)))
    → line_cells len nf nb ≡ set l p c
cells-set len f b nf nb p c l e h given =
    line_is len nf nb (set l p c) (grind (arith, length-set, length_line)) (λ i within.
    grind (arith, common_steps, given i, seen_at len f b i l, length_line len f b))

-- all cells are unknown if both masks are empty
pub cells-none : (len : ℕ) → line_cells len 0 0 ≡ replicate len Unknown
cells-none len =
    line_is len 0 0 (replicate len Unknown) (length-replicate len Unknown) (λ i h.
    grind (arith, nat_tests, bit_at-zero i, get_or-replicate))

-- masks of another width that have the same indices below it represent the same cells
pub cells-resized : (width len f b wf wb nf nb : ℕ) → len ≤ width → wf ≡ f → wb ≡ b → IsMaskOf (λ i. (i < width) × Has wf i) nf
    → IsMaskOf (λ i. (i < width) × Has wb i) nb
    → line_cells len nf nb ≡ line_cells len f b
cells-resized width len f b wf wb nf nb fits ef eb pf pb =
    line_is len nf nb (line_cells len f b) (length_line len f b) (λ i h.
    grind (arith, nat_tests, pf.to i, pf.from i, pb.to i, pb.from i, cell_at len f b i))

pub ruleset none_known = (cells-none)

pub ruleset seen = (length_seen, cell_at, filled_told, blank_told, nat_tests)
