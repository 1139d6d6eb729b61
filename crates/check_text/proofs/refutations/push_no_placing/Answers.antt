-- `push_no_placing`: the pieces are appended one after the other.
use Rattle.check_text.proofs.Pieces.{three_pieces}
use Rattle.check_text.proofs.refutations.push_no_placing.Goals as goal

pub returns : goal.returns
returns c =
    three_pieces _ _ _ _ _ _ _ _ c.in_ok-push_bytes.ensures.ok c.in_ok-push_line_name.ensures c.push_clue_in_parentheses.ensures
