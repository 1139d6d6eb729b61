-- Invariant of the loop of `GridLines::first_unknown`: the cells passed, from `from` on, are known.
use Rattle.solve_core.proofs.Names.{◌≡◌, ◌+◌, ◌*◌, ◌<◌, ◌≤◌, ℕ, false, get_or, is_unknown, Unknown}
use Rattle.solve_core.proofs.grids.grid_lines.GridLines.first_unknown.Given as goal

abbrev pub invariant-loop-y : goal.invariant-loop-y
invariant-loop-y g l = record {
  column : l.column < l.width;
  from : l.from ≤ l.y * l.width + l.column;
  known : (k : ℕ) → l.from ≤ k → k < l.y * l.width + l.column → is_unknown (get_or l.self.cells k Unknown) ≡ false;
}
