-- `fill_text`: the text is what is written.
use Rattle.nonograde_c.proofs.replies.fill_text.Goals as goal

pub returns : goal.returns
returns c = c.fill_bytes.ensures
