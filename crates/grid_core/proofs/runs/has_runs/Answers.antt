-- `has_runs`: when the loop ends, the first `next` numbers are all runs.
use Rattle.grid_core.proofs.Names.{arith, common_steps}
use Rattle.grid_core.proofs.runs.has_runs.Goals as goal

pub returns : goal.returns
returns c = grind (arith, common_steps)
