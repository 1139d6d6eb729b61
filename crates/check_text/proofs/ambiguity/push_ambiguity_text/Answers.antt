-- `push_ambiguity_text`: the pieces are appended one after the other.
use Rattle.check_text.proofs.Pieces.{four_pieces}
use Rattle.check_text.proofs.ambiguity.push_ambiguity_text.Goals as goal

pub returns : goal.returns
returns c =
    four_pieces _ _ _ _ _ _ _ _ _ _ c.in_ok-push_bytes.ensures.ok c.in_ok-push_grouped.ensures c.in_ok-push_bytes-2.ensures.ok (rw (c.from.ensures, c.from-2.ensures, c.width.ensures.width, c.height.ensures) at c.push_cell_count.ensures)
