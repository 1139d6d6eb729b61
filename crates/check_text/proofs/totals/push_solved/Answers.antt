-- The pieces of the text, appended one after the other.
use Rattle.check_text.proofs.Pieces.{four_pieces}
use Rattle.check_text.proofs.totals.push_solved.Goals as goal

pub returns : goal.returns
returns c =
    four_pieces _ _ _ _ _ _ _ _ _ _ c.in_ok-push_number.ensures.ok (rw c.word.ensures at c.in_ok-push_bytes.ensures.ok)
    (rw c.level_count.ensures at c.in_ok-push_number-2.ensures.ok) c.push_bytes-2.ensures.ok
