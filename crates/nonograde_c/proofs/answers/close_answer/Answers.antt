-- `close_answer`: what is closed is the grid of the cells that were given, and its report fits into the buffer.
use Rattle.nonograde_c.proofs.LengthLemmas.{close_text-le, within-buffer}
use Rattle.nonograde_c.proofs.answers.close_answer.Goals as goal

pub returns-clause-within : goal.returns-clause-within
returns-clause-within c =
    let puzzle = c.in_ok-puzzle.puzzle in
    within-buffer _ puzzle _ _ c.in_ok-puzzle.ensures.answer c.in_ok-puzzle.ensures.puzzle c.in_ok-close_text.ensures
    (close_text-le c.in-Some.by puzzle c.in_ok-grid.grid.cells c.in_ok-grid.ensures.few)
