-- Invariant of the loop of `Workspace::propagate_lines`: the closure of the cells is unchanged. Each turn that doesn't
-- return assigns a cell.
use Rattle.solve_core.proofs.Names.{◌≡◌, lines_of, closure, HasWorklist, IsLater, unknown_count}
use Rattle.solve_core.proofs.solving.workspaces.Workspace.propagate_lines.Given as goal

abbrev pub invariant-loop-self : goal.invariant-loop-self
invariant-loop-self g l =
    record {
      later : IsLater l.fn.self l.self;
      worklist : HasWorklist l.self;
      closed : closure (lines_of l.fn.self.puzzle) l.self.board.cells ≡ closure (lines_of l.fn.self.puzzle) l.fn.self.board.cells;
    }

abbrev pub decreases-loop-self : goal.decreases-loop-self
decreases-loop-self g l = unknown_count l.self.board.cells
