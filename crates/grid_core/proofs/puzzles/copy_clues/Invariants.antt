-- The loop invariant of `copy_clues`: the copies are the clues so far.
use Rattle.std.proofs.Common.{◌≡◌, take}
use Rattle.grid_core.proofs.puzzles.copy_clues.Given as goal

abbrev pub invariant-loop-clue : goal.invariant-loop-clue
invariant-loop-clue l = l.copies.items ≡ take l.clue-index l.clues
