-- `push_goal_difference_text`: the pieces are appended one after the other.
use Rattle.check_text.proofs.Pieces.{three_pieces}
use Rattle.check_text.proofs.goals.push_goal_difference_text.Goals as goal

pub returns : goal.returns
returns c =
    three_pieces _ _ _ _ _ _ _ _ c.in_ok-push_bytes.ensures.ok (rw c.rows_word.ensures at c.in_ok-push_bytes-2.ensures.ok) c.push_quoted_rows.ensures
