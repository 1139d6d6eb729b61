-- The pieces of the sentence, appended one after the other.
use Rattle.check_text.proofs.Pieces.{five_pieces}
use Rattle.check_text.proofs.text_counts.push_section_counts.Goals as goal

pub returns : goal.returns
returns c =
    five_pieces _ _ _ _ _ _ _ _ _ _ _ _ c.in_ok-push_bytes.ensures.ok c.in_ok-push_counted.ensures c.in_ok-push_bytes-2.ensures.ok
    c.in_ok-push_counted-2.ensures c.push_bytes-3.ensures.ok
