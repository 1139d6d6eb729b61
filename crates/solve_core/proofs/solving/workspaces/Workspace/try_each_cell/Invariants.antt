-- Invariant of the loop of `Workspace::try_each_cell`: `effect` is the effect so far; if it is `Unchanged`, `all`, and `least` is 0, no
-- unknown cell passed has a refuted colour.
use Rattle.std.specs.Prelude.{IsTrue}
use Rattle.solve_core.proofs.Names.{◌≡◌, ◌≢◌, ◌-◌, ◌<◌, ◌≤◌, ℕ, length, lines_of, Dead, Unchanged, HasNoRefutedColour, Tries}
use Rattle.solve_core.proofs.solving.workspaces.Workspace.try_each_cell.Given as goal

abbrev pub invariant-loop-place : goal.invariant-loop-place
invariant-loop-place g l = record {
  step : Tries l.effect l.fn.self l.self;
  alive : l.effect ≢ Dead;
  from : l.from ≤ length l.self.board.cells;
  tried : IsTrue l.all → l.least ≡ 0 → l.effect ≡ Unchanged
      → (k : ℕ) → k < l.from → HasNoRefutedColour (lines_of l.self.puzzle) l.self.board.cells k;
}

abbrev pub decreases-loop-place : goal.decreases-loop-place
decreases-loop-place g l = length l.self.board.cells - l.from
