-- The lemmas whose statements are laws of the crate: `src/laws.rt` cites this ruleset in place of a proof for each.
use Rattle.solve_core.proofs.AnswerLaws.{guesses-within}
use Rattle.solve_core.proofs.ClosureLaws.{closure-IsLeastClosed}
use Rattle.solve_core.proofs.PickLaws.{most_known-IsPick}
use Rattle.solve_core.proofs.SearchLaws.{events-unfold, first_unknown-IsPick}
use Rattle.solve_core.proofs.TrialLaws.{trials-IsLeastClosed}

pub ruleset laws = (
  closure-IsLeastClosed,
  trials-IsLeastClosed,
  events-unfold,
  guesses-within,
  first_unknown-IsPick,
  most_known-IsPick,
)
