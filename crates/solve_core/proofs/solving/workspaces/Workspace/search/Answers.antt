-- `search`: a guess and the events owed after it end as the events owed before, and fewer are owed then.
use Rattle.solve_core.proofs.Names.{Nonogram, ap, arith, picked, rules, ◌∙◌}
use Rattle.solve_core.specs.steps.FoundGrids.{FoundGrids}
use Rattle.solve_core.proofs.PickLaws.{picked-IsPick}
use Rattle.solve_core.proofs.BranchLaws.{branch-count}
use Rattle.solve_core.proofs.SearchSteps.{cell-unknown, search-starts, search-continues, search-shrinks, taken-IsNext, taken-IsAtFixpoint}
use Rattle.solve_core.proofs.solving.workspaces.Workspace.search.Goals as goal

pub loop-pick-init : goal.loop-pick-init
loop-pick-init g c = record {
  searching = rw c.requires.branches (search-starts _ (picked-IsPick c.args.pick _) c.args.self.now c.args.guesses _ _ _ c.requires.fixpoint
      (ap (λ (found : FoundGrids). found.grids) c.requires.solutions) c.next_guess_or_solution-next.ensures);
  capacity = c.requires.capacity;
}

pub take_guess-requires-clause-next : goal.take_guess-requires-clause-next
take_guess-requires-clause-next g c = search (rules, cell-unknown, picked-IsPick, c.loop-pick.invariant.searching)

pub take_guess-requires-clause-older : goal.take_guess-requires-clause-older
take_guess-requires-clause-older g c = search (rules, c.loop-pick.invariant.searching.under_way, branch-count)

pub guess_and_propagate-next-requires-clause-fixpoint : goal.guess_and_propagate-next-requires-clause-fixpoint
guess_and_propagate-next-requires-clause-fixpoint g c =
    taken-IsAtFixpoint _ (picked-IsPick c.args.pick _) _ _ _ _ _ _ _ _ _ _ _ c.loop-pick.invariant.searching c.in-Some.ensures.guess
    c.requires.fixpoint.worklist.puzzle

pub guess_and_propagate-next-requires-clause-next : goal.guess_and_propagate-next-requires-clause-next
guess_and_propagate-next-requires-clause-next g c =
    let kept = c.loop-pick.invariant.searching in
    rw (c.take_guess.ensures.guess.puzzle, kept.puzzle)
    (taken-IsNext _ (picked-IsPick c.args.pick _) _ _ _ _ _ _ _ _ _ _ _ kept c.in-Some.ensures.guess)

pub loop-pick-smaller : goal.loop-pick-smaller
loop-pick-smaller g c =
    let kept = c.loop-pick.invariant.searching in
    let guess = c.in-Some.ensures.guess in
    let same = ap (λ (p : Nonogram). picked c.args.pick p.width) (guess.puzzle ∙ kept.puzzle) in
    search-shrinks _ (picked-IsPick c.args.pick _) _ _ _ _ _ _ _ _ _ _ _ kept guess _ _ _ _ same c.guess_and_propagate-next.ensures

pub loop-pick-preserved : goal.loop-pick-preserved
loop-pick-preserved g c =
    let kept = c.loop-pick.invariant.searching in
    let guess = c.in-Some.ensures.guess in
    let same = ap (λ (p : Nonogram). picked c.args.pick p.width) (guess.puzzle ∙ kept.puzzle) in
    record {
      searching = search-continues _ (picked-IsPick c.args.pick _) _ _ _ _ _ _ _ _ _ _ _ kept guess _ _ _ _ same
          c.guess_and_propagate-next.ensures (omega (arith, c.loop-pick-test.true, c.len.ensures.len))
          (omega (arith, c.if-spent-guesses.false, kept.within));
      capacity = omega (arith, c.take_guess.ensures.capacity, c.loop-pick.invariant.capacity);
    }
