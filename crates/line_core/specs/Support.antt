-- The deduced line, from the support of a line.
use Rattle.std.specs.Prelude.{ℕ, Bool, true, false, ◌||◌, if◌then◌else◌, List, map, Option, Some, None}
use Rattle.std.specs.List.{range_with_len}
use Rattle.grid_core.specs.declared.cells.Cell.{Cell}
use Rattle.grid_core.specs.declared.cells.Cell.TheVariants.{Unknown, Filled, Blank}
use Rattle.bit_sets.specs.Masks.{has}

-- the deduced cell, by whether it is filled in some placing, and whether it is blank in some
abbrev pub deduced_cell : Bool → Bool → Cell
deduced_cell true true = Unknown
deduced_cell true false = Filled
deduced_cell false true = Blank
deduced_cell false false = Unknown

-- the deduced line of `len` cells, from the bits of the cells filled in some placing and of those
-- blank in some; `None`, since the line is dead, if the first cell is in neither
abbrev pub deduced_from : ℕ → ℕ → ℕ → Option (List Cell)
deduced_from len fillable blankable =
    if has fillable 0 || has blankable 0
    then Some (map (λ i. deduced_cell (has fillable i) (has blankable i)) (range_with_len 0 len))
    else None
