-- `is_text`: a text that is short enough is admissible exactly if it contains no line feed.
use Rattle.std.proofs.Common.{rules}
use Rattle.grid_core.proofs.fields.is_text.Goals as goal

pub returns-then-text-le-MAX_TEXT_LEN : goal.returns-then-text-le-MAX_TEXT_LEN
returns-then-text-le-MAX_TEXT_LEN c = search rules
