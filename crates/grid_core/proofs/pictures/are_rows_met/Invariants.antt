-- The loop invariant of `are_rows_met`: the picture meets the clue of each row before row `y`.
use Rattle.grid_core.proofs.Names.{◌<◌, ℕ, Rows, MeetsLine, line_on, values_of}
use Rattle.grid_core.proofs.pictures.are_rows_met.Given as goal

abbrev pub invariant-loop-y : goal.invariant-loop-y
invariant-loop-y l = (k : ℕ) → k < l.y → MeetsLine (values_of l.picture) (line_on Rows l.puzzle k)
