-- The law `verdict_holds`: with each lawful rule for guesses, what the verdict states is true of all full grids.
use Rattle.solve_core.proofs.AnswerLaws.{verdict-Holds}
use Rattle.solve_core.proofs.laws.verdict_holds.Goals as goal

pub returns : goal.returns
returns c = verdict-Holds
