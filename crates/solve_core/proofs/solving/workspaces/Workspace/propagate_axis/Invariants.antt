-- Invariant of the loop of `Workspace::propagate_axis`: `effect` is the effect so far, and of `lines` only those in `left`
-- are dirty.
use Rattle.solve_core.proofs.Names.{◌≢◌, ◌<◌, ℕ, Dead, Has, HasWorklist, IsInMask, PropagatesOn, line_count}
use Rattle.solve_core.proofs.solving.workspaces.Workspace.propagate_axis.Given as goal

abbrev pub invariant-loop-axis : goal.invariant-loop-axis
invariant-loop-axis g l =
    let bits = g.W.BitSet.bits in
    record {
      step : PropagatesOn l.axis l.effect l.fn.self l.self;
      worklist : HasWorklist l.self;
      alive : l.effect ≢ Dead;
      left : (k : ℕ) → Has (bits l.fn.lines) k → IsInMask l.self.dirty l.axis k → Has (bits l.left) k;
      within : (k : ℕ) → Has (bits l.left) k → k < line_count l.axis l.self.puzzle.width l.self.puzzle.height;
    }

abbrev pub decreases-loop-axis : goal.decreases-loop-axis
decreases-loop-axis g l = g.W.BitSet.bits l.left
