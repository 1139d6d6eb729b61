-- Lemmas on reading the cells that a caller gives.
use Rattle.std.proofs.Common.{◌≡◌, ◌∙◌, ℕ, suc, ◌+◌, ◌<◌, ◌≤◌, true, false, true≢false, List, [], ◌∷◌, ◌++◌, Option, Some, None, Ok, Err, length, take, drop, nat_eq, option_map, option_and_then, refl, sym, ap, arith, slice_index_or, slice_set}
use Rattle.std.proofs.Math.Seq.{drop-cons}
use Rattle.std.proofs.lemmas.Bool.{eqb-true}
use Rattle.std.proofs.lemmas.List.{append_assoc, append-nil, drop_all, take_all, take_more_set}
use Rattle.grid_core.specs.Nonogram.{Nonogram}
use Rattle.grid_core.specs.PartialGrid.{PartialGrid}
use Rattle.grid_core.specs.declared.cells.Cell.{Cell}
use Rattle.solve_core.specs.Report.{grid_of}
use Rattle.puzzle_text.specs.Answers.{each_some}
use Rattle.nonograde_c.specs.GivenCells.{after_line_end, cell_from_byte, fitting_grid, joined_rows}
use Rattle.nonograde_c.specs.declared.faults.Fault.TheVariants.{Cells}

-- a list that is put before what follows, in two parts
in_front : {X : Type 0} (a b : List X) (o : Option (List X))
    → option_map (λ rest. (a ++ b) ++ rest) o ≡ option_map (λ rest. a ++ rest) (option_map (λ rest. b ++ rest) o)
in_front a b None = refl
in_front a b (Some rest) = ap Some (append_assoc a b rest)

-- the cells of the bytes from index `i` on, of which the first one stands for `first`
each_from : (bytes : List ℕ) (i : ℕ) (first : Option Cell) → i < length bytes → first ≡ cell_from_byte (slice_index_or bytes i 0)
    → each_some cell_from_byte (drop i bytes)
    ≡ option_and_then (λ cell. option_map (λ cells. cell ∷ cells) (each_some cell_from_byte (drop (i + 1) bytes))) first
each_from bytes i first within is =
    let next : i + 1 ≡ suc i = omega arith in
    let at : drop i bytes ≡ slice_index_or bytes i 0 ∷ drop (i + 1) bytes = rw next (drop-cons bytes i 0 within) in
    ap (each_some cell_from_byte) at
    ∙ ap (option_and_then (λ cell. option_map (λ cells. cell ∷ cells) (each_some cell_from_byte (drop (i + 1) bytes)))) (sym is)

-- writing the cell of byte `i`
pub written_next : (grid : List Cell) (bytes : List ℕ) (i : ℕ) (cell : Cell) → i < length bytes → i < length grid
    → Some cell ≡ cell_from_byte (slice_index_or bytes i 0)
    → option_map (λ rest. take (i + 1) (slice_set grid i cell) ++ rest) (each_some cell_from_byte (drop (i + 1) bytes))
    ≡ option_map (λ rest. take i grid ++ rest) (each_some cell_from_byte (drop i bytes))
written_next grid bytes i cell within fits is =
    let rest = each_some cell_from_byte (drop (i + 1) bytes) in
    ap (λ (front : List Cell). option_map (λ more. front ++ more) rest) (take_more_set grid i cell fits)
    ∙ in_front (take i grid) (cell ∷ []) rest
    ∙ ap (option_map (λ more. take i grid ++ more)) (sym (each_from bytes i (Some cell) within is))

-- byte `i` stands for no cell
pub none_written : (grid : List Cell) (bytes : List ℕ) (i : ℕ) → i < length bytes → None ≡ cell_from_byte (slice_index_or bytes i 0)
    → None ≡ option_map (λ rest. take i grid ++ rest) (each_some cell_from_byte (drop i bytes))
none_written grid bytes i within is = sym (ap (option_map (λ more. take i grid ++ more)) (each_from bytes i None within is))

-- all cells are written
pub all_written : (grid : List Cell) (bytes : List ℕ) (i : ℕ) → length bytes ≤ i → length bytes ≡ length grid
    → Some grid ≡ option_map (λ rest. take i grid ++ rest) (each_some cell_from_byte (drop i bytes))
all_written grid bytes i past count =
    rw (drop_all i bytes past, take_all i grid (omega (arith, past, count)), append-nil grid)

-- joining one more row
pub joined_next : (rows bytes row : List ℕ) (width count : ℕ) (next : Option (List ℕ)) → row ≡ take width bytes
    → next ≡ after_line_end (drop width bytes)
    → option_map (λ rest. (rows ++ row) ++ rest) (option_and_then (joined_rows width count) next)
    ≡ option_map (λ rest. rows ++ rest) (joined_rows width (suc count) bytes)
joined_next rows bytes row width count next is_row is_next =
    rw (is_row, is_next) (in_front rows (take width bytes) (option_and_then (joined_rows width count) (after_line_end (drop width bytes))))

-- no bytes after the last row
pub joined_end : (rows bytes : List ℕ) (width count : ℕ) → count ≡ 0 → true ≡ nat_eq (length bytes) 0
    → Some rows ≡ option_map (λ rest. rows ++ rest) (joined_rows width count bytes)
joined_end rows [] width count none empty = rw (none, append-nil rows) refl
joined_end rows (byte ∷ bytes) width count none empty =
    let none_left : length (byte ∷ bytes) ≡ 0 = eqb-true (length (byte ∷ bytes)) 0 (sym empty) in absurd (omega (arith, none_left))

-- bytes after the last row
pub joined_more : (rows bytes : List ℕ) (width count : ℕ) → count ≡ 0 → false ≡ nat_eq (length bytes) 0
    → None ≡ option_map (λ rest. rows ++ rest) (joined_rows width count bytes)
joined_more rows [] width count none some = absurd (true≢false (sym some))
joined_more rows (byte ∷ bytes) width count none some = rw none refl

-- the grid of the cells that were given
pub fits : (p : Nonogram) (given : Option (List Cell)) (grid : PartialGrid) → Some grid ≡ option_map (grid_of p) given
    → fitting_grid p given ≡ Ok grid
fits p None grid is = cc
fits p (Some cells) grid is = cc

-- cells that don't fit
pub fits-none : (p : Nonogram) (given : Option (List Cell)) → None ≡ option_map (grid_of p) given → fitting_grid p given ≡ Err Cells
fits-none p None is = refl
fits-none p (Some cells) is = cc
