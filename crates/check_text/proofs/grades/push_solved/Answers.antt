-- `push_solved`: the pieces are appended one after the other.
use Rattle.check_text.proofs.Pieces.{six_pieces}
use Rattle.check_text.proofs.grades.push_solved.Goals as goal

pub returns : goal.returns
returns c =
    six_pieces _ _ _ _ _ _ _ _ _ _ _ _ _ _ c.in_ok-push_name.ensures c.in_ok-push_bytes.ensures.ok (rw c.means.ensures at c.in_ok-push_bytes-2.ensures.ok) c.in_ok-push_bytes-3.ensures.ok (rw (c.from.ensures, c.from-2.ensures, c.width.ensures.width, c.height.ensures) at c.in_ok-push_cell_count.ensures) c.push_bytes-4.ensures.ok
