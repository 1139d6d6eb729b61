-- `take_guess`: pushing a branch, or undoing to the last one, takes the first guess that is owed.
use Rattle.solve_core.proofs.Names.{ap, TrailedGrid, state_of, rules}
use Rattle.solve_core.proofs.BranchLaws.{fork-TakesGuess, back-TakesGuess, undone-IsWorkspace}
use Rattle.solve_core.proofs.SearchSteps.{unknown_count-positive}
use Rattle.solve_core.proofs.solving.workspaces.Workspace.take_guess.Goals as goal

pub push_reserved-requires : goal.push_reserved-requires
push_reserved-requires g c = search (rules, unknown_count-positive)

pub invariant_of-self : goal.invariant_of-self
invariant_of-self g c =
    undone-IsWorkspace _ _ c.self.inside.board _ _ _ c.in_ok-branch-in-None.branch.checkpoint c.undo_to.ensures c.self.invariant

pub returns-in-Some-clause-guess : goal.returns-in-Some-clause-guess
returns-in-Some-clause-guess g c =
    rw (c.in-Some.is, ← c.self.view_is)
    (fork-TakesGuess _ _ _ _ c.self.invariant.board c.push_reserved.ensures.items c.trail-checkpoint.ensures.len)

pub returns-in_ok-branch-in-None-clause-guess : goal.returns-in_ok-branch-in-None-clause-guess
returns-in_ok-branch-in-None-clause-guess g c =
    let inside = c.self.inside in
    rw (c.in-None.is, ← c.self.view_is) (back-TakesGuess _ _ _ c.in_ok-branch-in-None.branch _ (invariant_of-self g c).board
    c.in_ok-branch-in-None.ensures.items
    (ap (λ (b : TrailedGrid). state_of inside.deducer b inside.dirty inside.consistent) c.undo_to.ensures))
