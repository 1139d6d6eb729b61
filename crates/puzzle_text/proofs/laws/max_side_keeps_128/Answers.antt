-- The law `max_side_keeps_128`: 128 is at most `MAX_SIDE`.
use Rattle.puzzle_text.proofs.Names.{arith}
use Rattle.puzzle_text.proofs.GreaterLimit.{keeps}
use Rattle.puzzle_text.proofs.laws.max_side_keeps_128.Goals as goal

pub returns : goal.returns
returns c = keeps _ _ (omega arith)
