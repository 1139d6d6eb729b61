-- Invariant of the loop of `search`: with the solutions found, the guesses spent and the events owed it ends as the whole
-- search.
use Rattle.solve_core.proofs.Names.{◌*◌, ◌≤◌, length, vec_capacity, owed, picked}
use Rattle.solve_core.proofs.SearchSteps.{IsSearching}
use Rattle.solve_core.proofs.solving.workspaces.Workspace.search.Given as goal

abbrev pub invariant-loop-pick : goal.invariant-loop-pick
invariant-loop-pick g l =
    let start = l.fn.self in
    record {
      searching : IsSearching (picked l.pick start.puzzle.width) start l.guesses l.self l.branches.items l.solutions l.next l.spent;
      capacity : start.puzzle.width * start.puzzle.height ≤ vec_capacity l.branches;
    }

abbrev pub decreases-loop-pick : goal.decreases-loop-pick
decreases-loop-pick g l =
    let p = l.fn.self.puzzle in
    length (owed (picked l.pick p.width) p l.branches.items l.self.board l.next)
