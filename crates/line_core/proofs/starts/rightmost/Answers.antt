-- `rightmost`: the outermost starts in the direction `Right`.
use Rattle.line_core.proofs.starts.rightmost.Goals as goal

pub returns : goal.returns
returns c = rw c.numbers.ensures.numbers at c.find.ensures
