-- Invariant of the loop of `load_columns`: the columns have the cells of the rows passed.
use Rattle.solve_core.proofs.Names.{◌≡◌, ◌<◌, ℕ, [], get_or, length, Unknown}
use Rattle.solve_core.proofs.grids.grid_lines.load_columns.Given as goal

abbrev pub invariant-loop-y : goal.invariant-loop-y
invariant-loop-y g l = record {
  cells : (x k : ℕ) → x < length l.columns → k < l.y → get_or (get_or l.columns x []) k Unknown ≡ get_or (get_or l.rows k []) x Unknown;
  lengths : (x : ℕ) → x < length l.columns → length (get_or l.columns x []) ≡ length l.rows;
}
