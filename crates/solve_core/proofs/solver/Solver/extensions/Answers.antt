-- `Solver::extensions`: the workspace has the clues of the puzzle.
use Rattle.solve_core.proofs.solver.Solver.extensions.Goals as goal

pub returns-clause-extensions : goal.returns-clause-extensions
returns-clause-extensions c = rw (← c.self.view_is) (rw c.self.invariant at c.extensions.ensures.extensions)
