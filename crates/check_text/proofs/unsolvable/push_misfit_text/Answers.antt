-- `push_misfit_text`: the pieces are appended one after the other.
use Rattle.check_text.proofs.Pieces.{seven_pieces}
use Rattle.check_text.proofs.unsolvable.push_misfit_text.Goals as goal

pub returns : goal.returns
returns c =
    seven_pieces _ _ _ _ _ _ _ _ _ _ _ _ _ _ _ _ c.in_ok-push_bytes.ensures.ok c.in_ok-push_line_name.ensures c.in_ok-push_bytes-2.ensures.ok (rw c.from.ensures at c.in_ok-push_cell_count.ensures) c.in_ok-push_clue_in_parentheses.ensures c.in_ok-push_bytes-3.ensures.ok (rw c.from-2.ensures at c.push_grouped.ensures)
