-- `solve_answer`: the line and the grids of the puzzle that was read fit into the buffer.
use Rattle.nonograde_c.proofs.LengthLemmas.{solve_answer-le}
use Rattle.nonograde_c.proofs.answers.solve_answer.Goals as goal

pub returns-clause-within : goal.returns-clause-within
returns-clause-within c =
    solve_answer-le c.args.name.now c.args.guesses c.in-Some.pick _ c.in_ok-puzzle.puzzle _ c.in_ok-puzzle.ensures.answer
    c.in_ok-puzzle.ensures.puzzle c.in-Some.ensures.within c.in_ok-solve_text.ensures
