-- `push_refutation`: the pieces are appended one after the other.
use Rattle.check_text.proofs.Pieces.{three_pieces}
use Rattle.check_text.proofs.refutations.push_refutation.Goals as goal

pub returns : goal.returns
returns c =
    three_pieces _ _ _ _ _ _ _ _ c.in_ok-push_head.ensures c.in_ok-push_refutation_text.ensures c.push_bytes.ensures.ok
