-- Invariant of the loop of `Workspace::try_to_fixpoint`: the state is ready for trials, and trials of it yield the same as
-- at first.
use Rattle.solve_core.proofs.Names.{◌≡◌, ◌+◌, ◌*◌, ◌≤◌, lines_of, trials, IsReadyForTrial, cond, unknown_count}
use Rattle.solve_core.proofs.solving.workspaces.Workspace.try_to_fixpoint.Given as goal

abbrev pub invariant-loop-all : goal.invariant-loop-all
invariant-loop-all g l = record {
  least : l.least ≤ 3;
  ready : IsReadyForTrial l.self;
  puzzle : l.self.puzzle ≡ l.fn.self.puzzle;
  same : trials (lines_of l.self.puzzle) l.self.board.cells ≡ trials (lines_of l.self.puzzle) l.fn.self.board.cells;
}

abbrev pub decreases-loop-all : goal.decreases-loop-all
decreases-loop-all g l = 8 * unknown_count l.self.board.cells + 2 * l.least + cond l.all 0 1
