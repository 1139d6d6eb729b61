-- `push_sums_text`: the pieces are appended one after the other.
use Rattle.check_text.proofs.Pieces.{four_pieces}
use Rattle.check_text.proofs.unsolvable.push_sums_text.Goals as goal

pub returns : goal.returns
returns c =
    four_pieces _ _ _ _ _ _ _ _ _ _ c.in_ok-push_bytes.ensures.ok (rw c.from.ensures at c.in_ok-push_cell_count.ensures) c.in_ok-push_bytes-2.ensures.ok (rw c.from-2.ensures at c.push_grouped.ensures)
