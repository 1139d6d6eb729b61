-- Invariant of the loop of `write_across`: the columns passed have the row's cell, and the others are unchanged.
use Rattle.solve_core.proofs.Names.{ℕ, [], get_or, set, Unknown}
use Rattle.solve_core.proofs.GridLineSteps.{IsWrittenTo}
use Rattle.solve_core.proofs.grids.grid_lines.write_across.Given as goal

abbrev pub invariant-loop-x : goal.invariant-loop-x
invariant-loop-x g l = IsWrittenTo l.fn.columns (λ (k : ℕ). set (get_or l.fn.columns k []) l.y (get_or l.row k Unknown)) l.x l.columns
