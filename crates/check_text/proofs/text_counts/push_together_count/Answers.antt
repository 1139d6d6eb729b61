-- The pieces of the sentence, appended one after the other.
use Rattle.check_text.proofs.Pieces.{three_pieces}
use Rattle.check_text.proofs.text_counts.push_together_count.Goals as goal

pub returns : goal.returns
returns c = three_pieces _ _ _ _ _ _ _ _ c.in_ok-push_bytes.ensures.ok c.in_ok-push_counted.ensures c.push_bytes-2.ensures.ok
