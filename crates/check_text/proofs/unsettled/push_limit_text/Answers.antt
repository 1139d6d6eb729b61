-- `push_limit_text`: the pieces are appended one after the other.
use Rattle.check_text.proofs.Pieces.{three_pieces}
use Rattle.check_text.proofs.unsettled.push_limit_text.Goals as goal

pub returns : goal.returns
returns c =
    three_pieces _ _ _ _ _ _ _ _ c.in_ok-push_bytes.ensures.ok (rw c.from.ensures at c.in_ok-push_guess_count.ensures) (rw c.limit_hint.ensures at c.push_bytes-2.ensures.ok)
