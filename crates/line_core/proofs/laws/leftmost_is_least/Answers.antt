-- The law `leftmost_is_least`: the search of the definition finds the least starts.
use Rattle.line_core.proofs.Names.{Left}
use Rattle.line_core.proofs.EndLaws.{outermost-furthest}
use Rattle.line_core.proofs.laws.leftmost_is_least.Goals as goal

pub returns : goal.returns
returns c = outermost-furthest Left
