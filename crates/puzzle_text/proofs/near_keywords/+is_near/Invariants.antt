-- Each call of `is_near` within itself has a word that is a letter shorter.
use Rattle.puzzle_text.proofs.Names.{length}
use Rattle.puzzle_text.proofs.near_keywords.+is_near.Given as goal

abbrev pub decreases-is_near : goal.decreases-is_near
decreases-is_near l = length l.word.now
