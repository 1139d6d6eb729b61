-- `dead_rounds_show_a_contradiction`, since a round without a contradiction is alive.
use Rattle.diagnosis.proofs.RoundLaws.{contradiction-dead}
use Rattle.diagnosis.proofs.laws.dead_rounds_show_a_contradiction.Goals as goal

pub returns : goal.returns
returns c = λ p is dead none. contradiction-dead p is dead none
