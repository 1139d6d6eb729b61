-- The clues that need more cells than their line has.
use Rattle.std.specs.Prelude.{ℕ, ◌+◌, ◌-◌, Bool, nat_lt, List, [], ◌++◌, length, map, filter, sum, slice_index_or}
use Rattle.std.specs.List.{range_with_len}
use Rattle.grid_core.specs.declared.axes.Axis.{Axis}
use Rattle.grid_core.specs.declared.axes.Axis.TheVariants.{Rows, Columns}
use Rattle.grid_core.specs.Nonogram.{Nonogram, clues_on}
use Rattle.diagnosis.specs.declared.misfits.Misfit.{Misfit}

-- how many cells a line needs for its clue: the sum of the numbers, and a blank cell between each
-- two
abbrev pub cells_needed : List ℕ → ℕ
cells_needed clue = sum clue + (length clue - 1)

-- how many cells each line of an axis has
abbrev pub line_length : Axis → Nonogram → ℕ
line_length Rows p = p.width
line_length Columns p = p.height

-- line `i` of an axis, whether its clue fits or not, with the cells that it needs and has
abbrev pub fit_of : Axis → Nonogram → ℕ → Misfit
fit_of axis p i =
    record {
      axis = axis;
      index = i;
      needed = cells_needed (slice_index_or (clues_on axis p) i []);
      cells = line_length axis p;
    }

-- whether more cells are needed than there are
abbrev pub is_misfit : Misfit → Bool
is_misfit fit = nat_lt fit.cells fit.needed

-- the clues of an axis that don't fit their line, in order
abbrev pub misfits_on : Axis → Nonogram → List Misfit
misfits_on axis p =
    filter is_misfit (map (fit_of axis p) (range_with_len 0 (length (clues_on axis p))))

-- the clues that don't fit their line: first those of the rows, then those of the columns
abbrev pub misfits_of : Nonogram → List Misfit
misfits_of p = misfits_on Rows p ++ misfits_on Columns p
