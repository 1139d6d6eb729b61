-- `lines_answer`: the grid of the puzzle that was read fits into the buffer.
use Rattle.nonograde_c.proofs.LengthLemmas.{lines_text-le, within-buffer}
use Rattle.nonograde_c.proofs.answers.lines_answer.Goals as goal

pub returns-clause-within : goal.returns-clause-within
returns-clause-within c =
    let puzzle = c.in_ok-puzzle.puzzle in
    within-buffer _ puzzle _ _ c.in_ok-puzzle.ensures.answer c.in_ok-puzzle.ensures.puzzle c.in_ok-lines_text.ensures
    (lines_text-le puzzle c.in_ok-puzzle.ensures.puzzle)
