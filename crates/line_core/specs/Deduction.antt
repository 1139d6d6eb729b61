-- The deduced line: what all placings share.
use Rattle.std.specs.Prelude.{ℕ, Bool, false, not, if◌then◌else◌, List, [], ◌∷◌, length, map, Option, Some, None, slice_index_or}
use Rattle.std.specs.List.{list_all, range_with_len}
use Rattle.grid_core.specs.declared.cells.Cell.{Cell}
use Rattle.grid_core.specs.declared.cells.Cell.TheVariants.{Unknown, Filled, Blank}
use Rattle.line_core.specs.Placings.{placings}

-- the cell that `lines` share at index `k`: the colour that all of them have there, or unknown if
-- they differ
abbrev pub shared_at : List (List Bool) → ℕ → Cell
shared_at lines k =
    if list_all (λ cells. slice_index_or cells k false) lines then Filled
    else (if list_all (λ cells. not (slice_index_or cells k false)) lines then Blank else Unknown)

-- the line of `n` cells that all of the full lines share; `None` if there are no lines
abbrev pub shared : ℕ → List (List Bool) → Option (List Cell)
shared n [] = None
shared n (cells ∷ lines) = Some (map (shared_at (cells ∷ lines)) (range_with_len 0 n))

-- the deduced line of `line` and `clue`: each cell has the colour that all placings share, and is
-- unknown if they differ; `None` if there is no placing, as the line is dead then
abbrev pub deduced : List Cell → List ℕ → Option (List Cell)
deduced line clue = shared (length line) (placings line clue)
