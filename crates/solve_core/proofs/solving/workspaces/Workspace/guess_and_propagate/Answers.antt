-- `guess_and_propagate`: if the guess is dead, only the branches' events are owed; otherwise those from its closed cells come
-- first.
use Rattle.solve_core.proofs.Names.{length, ap, arith, lines_of, rules}
use Rattle.solve_core.proofs.PickLaws.{picked-IsPick}
use Rattle.solve_core.proofs.TrailSteps.{length-undone}
use Rattle.solve_core.proofs.SearchSteps.{next-unknown, known-before, dead-Guesses, alive-Guesses}
use Rattle.solve_core.proofs.solving.workspaces.Workspace.guess_and_propagate.Goals as goal

pub guess-requires-clause-cell : goal.guess-requires-clause-cell
guess-requires-clause-cell g c =
    let s = c.args.self.now in
    let at = next-unknown _ (picked-IsPick c.args.pick s.puzzle.width) (lines_of s.puzzle) s.board.cells c.args.place c.requires.next in
    record { within = at.0; unknown = at.1; known = c.requires.colour }

pub returns-then-not-guess : goal.returns-then-not-guess
returns-then-not-guess g c =
    dead-Guesses _ (picked-IsPick c.args.pick _) c.args.place c.args.colour _ _ _ c.if-not-guess.ensures c.requires.room

pub next_guess_or_solution-requires-clause-start : goal.next_guess_or_solution-requires-clause-start
next_guess_or_solution-requires-clause-start g c =
    let s = c.args.self.now in
    let trail = c.guess.ensures.later.trail in
    let at = next-unknown _ (picked-IsPick c.args.pick s.puzzle.width) (lines_of s.puzzle) s.board.cells c.args.place c.requires.next in
    omega (arith, at.0, ap length trail.undo, length-undone c.guess.new.self.board.cells trail.added)

pub next_guess_or_solution-requires-clause-known : goal.next_guess_or_solution-requires-clause-known
next_guess_or_solution-requires-clause-known g c = search (rules, known-before, c.requires.next, c.if-not-guess.ensures.closed)

pub returns : goal.returns
returns g c =
    alive-Guesses _ (picked-IsPick c.args.pick c.args.self.now.puzzle.width) c.args.place c.args.colour _ _ _ _ _ c.requires.next
    c.requires.colour c.if-not-guess.ensures (rw c.guess.ensures.later.puzzle at c.next_guess_or_solution.ensures)
