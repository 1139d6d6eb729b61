-- `is_run`: a number is in the range exactly if it is at least 1 and at most the limit.
use Rattle.std.proofs.Common.{rules}
use Rattle.grid_core.proofs.clues.is_run.Goals as goal

pub returns : goal.returns
returns c = search rules
