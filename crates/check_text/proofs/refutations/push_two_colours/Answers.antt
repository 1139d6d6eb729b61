-- `push_two_colours`: the pieces are appended one after the other.
use Rattle.check_text.proofs.Pieces.{five_pieces}
use Rattle.check_text.proofs.refutations.push_two_colours.Goals as goal

pub returns : goal.returns
returns c =
    five_pieces _ _ _ _ _ _ _ _ _ _ _ _ c.in_ok-push_bytes.ensures.ok c.in_ok-push_line_with_clue.ensures c.in_ok-push_bytes-2.ensures.ok c.in_ok-push_line_with_clue-2.ensures c.push_bytes-3.ensures.ok
