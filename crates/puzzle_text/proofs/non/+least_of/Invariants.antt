-- Each call of `least_of` within itself has one number less.
use Rattle.puzzle_text.proofs.Names.{length}
use Rattle.puzzle_text.proofs.non.+least_of.Given as goal

abbrev pub decreases-least_of : goal.decreases-least_of
decreases-least_of l = length l.numbers.now
