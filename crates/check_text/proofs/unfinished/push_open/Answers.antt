-- `push_open`: the pieces are appended one after the other.
use Rattle.check_text.proofs.Pieces.{two_pieces}
use Rattle.check_text.proofs.unfinished.push_open.Goals as goal

pub returns : goal.returns
returns c = two_pieces _ _ _ _ _ _ c.in_ok-push_unsettled.ensures c.push_missed_goal.ensures
