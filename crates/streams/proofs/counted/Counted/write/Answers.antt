-- `write`: a failed call is counted.
use Rattle.std.proofs.Common.{rules}
use Rattle.streams.proofs.counted.Counted.write.Goals as goal

pub returns-else-failed-clause-counts : goal.returns-else-failed-clause-counts
returns-else-failed-clause-counts g c = search rules
