-- The loop invariant of `are_columns_met`: the picture meets the clue of each column before column `x`.
use Rattle.grid_core.proofs.Names.{◌<◌, ℕ, Columns, MeetsLine, line_on, values_of}
use Rattle.grid_core.proofs.pictures.are_columns_met.Given as goal

abbrev pub invariant-loop-x : goal.invariant-loop-x
invariant-loop-x l = (k : ℕ) → k < l.x → MeetsLine (values_of l.picture) (line_on Columns l.puzzle k)
