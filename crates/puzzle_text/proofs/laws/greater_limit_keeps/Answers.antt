-- The law `greater_limit_keeps`: each check of a reader keeps its result with a greater limit, in each format.
use Rattle.puzzle_text.proofs.GreaterLimit.{keeps}
use Rattle.puzzle_text.proofs.laws.greater_limit_keeps.Goals as goal

pub returns : goal.returns
returns c = keeps
