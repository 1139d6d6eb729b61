-- The pieces of the sentence, appended one after the other.
use Rattle.check_text.proofs.Pieces.{three_pieces}
use Rattle.check_text.proofs.text_forms.push_misspelt.Goals as goal

pub returns : goal.returns
returns c = three_pieces _ _ _ _ _ _ _ _ c.in_ok-push_bytes.ensures.ok (rw c.word.ensures.word at c.in_ok-push_bytes-2.ensures.ok) c.push_bytes-3.ensures.ok
