-- The loop invariant of `line_of`: the cells before cell `k` are read.
use Rattle.std.proofs.Common.{◌≡◌, ℕ, ◌<◌, length, slice_index_or}
use Rattle.grid_core.specs.declared.cells.Cell.TheVariants.{Unknown}
use Rattle.grid_core.specs.steps.Axes.{cell_index_on}
use Rattle.diagnosis.proofs.contradictions.line_of.Given as goal

abbrev pub invariant-loop-k : goal.invariant-loop-k
invariant-loop-k l =
    (length l.line ≡ l.len)
    × ((i : ℕ) → i < l.k → slice_index_or l.line i Unknown ≡ slice_index_or l.grid.cells (cell_index_on l.axis l.grid.width l.index i) Unknown)
