-- `extend_answer`: the search begins with the grid of the cells that were given, and its report fits into the buffer.
use Rattle.nonograde_c.proofs.LengthLemmas.{extend_text-le, within-buffer}
use Rattle.nonograde_c.proofs.answers.extend_answer.Goals as goal

pub returns-clause-within : goal.returns-clause-within
returns-clause-within c =
    let puzzle = c.in_ok-puzzle.puzzle in
    within-buffer _ puzzle _ _ c.in_ok-puzzle.ensures.answer c.in_ok-puzzle.ensures.puzzle c.in_ok-extend_text.ensures
    (extend_text-le c.in-Some.pick c.args.guesses puzzle c.in_ok-grid.grid.cells c.in-Some.ensures.within)
