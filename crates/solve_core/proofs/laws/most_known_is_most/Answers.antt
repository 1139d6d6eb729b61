-- The law `most_known_is_most`: the cell that the fold over all cells yields has the properties that the rule states.
use Rattle.solve_core.proofs.PickLaws.{most_known-is}
use Rattle.solve_core.proofs.laws.most_known_is_most.Goals as goal

pub returns : goal.returns
returns c = most_known-is
