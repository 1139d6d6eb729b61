-- The loop invariant of `Grid::first_unknown`: no cell above row `y` is unknown.
use Rattle.grid_core.proofs.Names.{◌≡◌, ◌*◌, ◌<◌, ℕ, false, get_or, Unknown, is_unknown}
use Rattle.grid_core.proofs.grids.Grid.first_unknown.Given as goal

abbrev pub invariant-loop-y : goal.invariant-loop-y
invariant-loop-y l = (k : ℕ) → k < l.y * l.self.width → is_unknown (get_or l.self.cells k Unknown) ≡ false
