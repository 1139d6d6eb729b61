-- The law `rightmost_is_greatest`: the search of the definition finds the greatest starts.
use Rattle.line_core.proofs.Names.{Right}
use Rattle.line_core.proofs.EndLaws.{outermost-furthest}
use Rattle.line_core.proofs.laws.rightmost_is_greatest.Goals as goal

pub returns : goal.returns
returns c = outermost-furthest Right
