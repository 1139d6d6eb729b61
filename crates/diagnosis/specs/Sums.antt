-- How many filled cells the clues of a puzzle ask for.
use Rattle.std.specs.Prelude.{sum, sum_by}
use Rattle.grid_core.specs.Nonogram.{Nonogram}
use Rattle.diagnosis.specs.declared.sums.Sums.{Sums}

-- how many filled cells the row clues of `p` ask for, and how many the column clues do
abbrev pub sums_of : Nonogram → Sums
sums_of p = record { rows = sum_by sum p.rows; columns = sum_by sum p.columns }
