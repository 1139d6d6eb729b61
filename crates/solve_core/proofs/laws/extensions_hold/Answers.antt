-- The law `extensions_hold`: with each lawful rule for guesses, what the verdict states is true of all grids that extend the given one.
use Rattle.solve_core.proofs.AnswerLaws.{extensions-HoldsFrom}
use Rattle.solve_core.proofs.laws.extensions_hold.Goals as goal

pub returns : goal.returns
returns c = extensions-HoldsFrom
