-- `try_unless_full`: trials leave a full board at a fixpoint unchanged.
use Rattle.solve_core.proofs.Names.{◌∙◌, refl, sym, lines_of}
use Rattle.solve_core.proofs.Counting.{full-tried}
use Rattle.solve_core.proofs.GridSteps.{fixpoint_closed}
use Rattle.solve_core.proofs.TrialSteps.{tried_ends}
use Rattle.solve_core.proofs.solving.workspaces.Workspace.try_unless_full.Goals as goal

pub returns-then-full-clause-tried : goal.returns-then-full-clause-tried
returns-then-full-clause-tried g c =
    let s = c.args.self.now in
    let lines = lines_of s.puzzle in
    let full = sym c.requires.full ∙ c.if-full.true in
    rw c.if-full.true (record {
      puzzle = refl;
      tried = sym (tried_ends lines s.board.cells (fixpoint_closed s c.requires.fixpoint) (full-tried lines s.board.cells full));
      fixpoint = λ alive. c.requires.fixpoint;
    })
