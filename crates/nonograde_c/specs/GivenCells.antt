-- The cells of a partly known grid, as a caller gives them: row by row, one byte for each cell.
use Rattle.std.specs.Prelude.{ℕ, zero, suc, ◌*◌, ◌++◌, List, [], ◌∷◌, length, take, drop, nat_eq, if◌then◌else◌, Option, Some, None, option_map, option_and_then, Result, Ok, Err}
use Rattle.grid_core.specs.Nonogram.{Nonogram}
use Rattle.grid_core.specs.PartialGrid.{PartialGrid}
use Rattle.grid_core.specs.declared.cells.Cell.{Cell}
use Rattle.grid_core.specs.declared.cells.Cell.TheVariants.{Unknown, Filled, Blank}
use Rattle.solve_core.specs.Report.{grid_of}
use Rattle.puzzle_text.specs.Answers.{each_some}
use Rattle.nonograde_c.specs.declared.faults.Fault.{Fault}
use Rattle.nonograde_c.specs.declared.faults.Fault.TheVariants.{Cells}

-- the cell for which a byte stands, if it stands for one: `#` for a filled cell, `.` for a blank
-- one, `?` for an unknown one
abbrev pub cell_from_byte : ℕ → Option Cell
cell_from_byte byte =
    if nat_eq byte 35 then Some Filled
    else if nat_eq byte 46 then Some Blank
    else if nat_eq byte 63 then Some Unknown
    else None

-- the bytes after an LF, which is the first byte, if it is
abbrev pub after_lf : List ℕ → Option (List ℕ)
after_lf [] = None
after_lf (byte ∷ rest) = if nat_eq byte 10 then Some rest else None

-- the bytes after the line end at the start: an LF, a CR LF, or the end of the bytes
abbrev pub after_line_end : List ℕ → Option (List ℕ)
after_line_end [] = Some []
after_line_end (byte ∷ rest) = if nat_eq byte 13 then after_lf rest else after_lf (byte ∷ rest)

-- the bytes without the line ends, one of which follows each row: `count` rows of `width` bytes,
-- and nothing after them. If the bytes end early, the rows have fewer bytes.
abbrev pub joined_rows : ℕ → ℕ → List ℕ → Option (List ℕ)
joined_rows width zero [] = Some []
joined_rows width zero (_ ∷ _) = None
joined_rows width (suc count) bytes =
    option_map (λ rest. take width bytes ++ rest)
    (option_and_then (joined_rows width count) (after_line_end (drop width bytes)))

-- the cells that `bytes` stand for, if there are `count` of them
abbrev pub cells_of : ℕ → List ℕ → Option (List Cell)
cells_of count bytes =
    if nat_eq (length bytes) count then each_some cell_from_byte bytes else None

-- The bytes of the cells of a grid of this size, if `bytes` have its rows: either they are all of
-- `bytes`, or each row is followed by a line end, which may be missing after the last one.
abbrev pub cell_bytes : ℕ → ℕ → List ℕ → Option (List ℕ)
cell_bytes width height bytes =
    if nat_eq (length bytes) (width * height) then Some bytes else joined_rows width height bytes

-- the cells of a grid of this size that `bytes` give, if they give all of its cells
abbrev pub given_cells : ℕ → ℕ → List ℕ → Option (List Cell)
given_cells width height bytes =
    option_and_then (cells_of (width * height)) (cell_bytes width height bytes)

-- the grid of the size of `p` with the cells that were given, or the fault if they don't fit
abbrev pub fitting_grid : Nonogram → Option (List Cell) → Result PartialGrid Fault
fitting_grid p None = Err Cells
fitting_grid p (Some cells) = Ok (grid_of p cells)

-- the grid of the size of `p` whose cells `bytes` give, or the fault if they don't fit
abbrev pub grid_answer : Nonogram → List ℕ → Result PartialGrid Fault
grid_answer p bytes = fitting_grid p (given_cells p.width p.height bytes)
