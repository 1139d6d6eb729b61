-- What line logic shows of a puzzle that it refutes.
use Rattle.std.specs.Prelude.{Bool, ℕ, zero, suc, ◌+◌, List, length, find, is_none, Option, Some, None, option_map, option_and_then, slice_index_or}
use Rattle.std.specs.List.{range_with_len}
use Rattle.grid_core.specs.declared.axes.Axis.{Axis}
use Rattle.grid_core.specs.declared.axes.Axis.TheVariants.{Rows, Columns}
use Rattle.grid_core.specs.declared.cells.Cell.{Cell}
use Rattle.grid_core.specs.declared.cells.Cell.TheVariants.{Unknown}
use Rattle.grid_core.specs.Nonogram.{Nonogram, cells_at, clues_on, line_on, lines_of}
use Rattle.line_core.specs.Deduction.{deduced}
use Rattle.solve_core.specs.Closure.{join_cells, round}
use Rattle.solve_core.specs.Report.{unknown_grid}
use Rattle.solve_core.specs.declared.findings.Grade.{Grade}
use Rattle.solve_core.specs.declared.findings.Grade.TheVariants.{Lines as LineGrade, Trials as TrialGrade, Search as SearchGrade}
use Rattle.diagnosis.specs.declared.contradictions.Contradiction.{Contradiction}
use Rattle.diagnosis.specs.declared.contradictions.Contradiction.TheVariants.{NoPlacing, TwoColours}
use Rattle.diagnosis.specs.declared.contradictions.Refutation.{Refutation}
use Rattle.diagnosis.specs.declared.contradictions.Refutation.TheVariants.{Lines, Trials, Search}
use Rattle.diagnosis.specs.declared.differences.Position.{Position}
use Rattle.diagnosis.specs.Differences.{positions}

-- line `i` of an axis, deduced from `grid` alone; `None` if its clue has no placing
abbrev pub deduced_on : Axis → Nonogram → List Cell → ℕ → Option (List Cell)
deduced_on axis p grid i =
    deduced (cells_at Unknown grid (line_on axis p i).indices) (line_on axis p i).clue

-- whether the clue of line `i` of an axis has no placing
abbrev pub is_dead_on : Axis → Nonogram → List Cell → ℕ → Bool
is_dead_on axis p grid i = is_none (deduced_on axis p grid i)

-- the number of the first line of an axis whose clue has no placing
abbrev pub dead_line : Axis → Nonogram → List Cell → Option ℕ
dead_line axis p grid =
    find (is_dead_on axis p grid) (range_with_len 0 (length (clues_on axis p)))

-- the cell at index `k` of a line; unknown if there is no line
abbrev pub cell_of : Option (List Cell) → ℕ → Cell
cell_of None k = Unknown
cell_of (Some line) k = slice_index_or line k Unknown

-- the join of what the row and the column of a cell deduce of it; `None` if they deduce two colours
abbrev pub joined_at : Nonogram → List Cell → Position → Option Cell
joined_at p grid at =
    join_cells (cell_of (deduced_on Rows p grid at.row) at.column)
    (cell_of (deduced_on Columns p grid at.column) at.row)

-- whether the row and the column of a cell deduce two colours of it
abbrev pub has_two_colours : Nonogram → List Cell → Position → Bool
has_two_colours p grid at = is_none (joined_at p grid at)

-- the first cell in row order whose row and column deduce two colours of it
abbrev pub two_coloured_cell : Nonogram → List Cell → Option Position
two_coloured_cell p grid = find (has_two_colours p grid) (positions p.width p.height)

-- the first value if there is one, otherwise the second
abbrev pub first_of : {X : Type 0} → Option X → Option X → Option X
first_of None second = second
first_of (Some x) second = Some x

-- what a round on `grid` shows: the first row whose clue has no placing, or else the first such
-- column, or else the first cell whose row and column deduce two colours of it
abbrev pub contradiction_in : Nonogram → List Cell → Option Contradiction
contradiction_in p grid =
    first_of (option_map (NoPlacing Rows) (dead_line Rows p grid))
    (first_of (option_map (NoPlacing Columns) (dead_line Columns p grid))
    (option_map TwoColours (two_coloured_cell p grid)))

-- what the first dead one of at most `n` rounds shows, of which the first is on `grid`
abbrev pub contradiction_within : Nonogram → ℕ → List Cell → Option Contradiction
contradiction_within p zero grid = None
contradiction_within p (suc n) grid =
    first_of (contradiction_in p grid)
    (option_and_then (contradiction_within p n) (round (lines_of p) grid))

-- what the first dead round shows, of those by which `closure` closes the unknown grid
abbrev pub first_contradiction : Nonogram → Option Contradiction
first_contradiction p = contradiction_within p (length (unknown_grid p) + 1) (unknown_grid p)

-- by what a puzzle without solutions was refuted that has this grade; `None` if line logic shows no
-- contradiction
abbrev pub refutation_of : Nonogram → Grade → Option Refutation
refutation_of p LineGrade = option_map Lines (first_contradiction p)
refutation_of p TrialGrade = Some Trials
refutation_of p SearchGrade = Some Search
