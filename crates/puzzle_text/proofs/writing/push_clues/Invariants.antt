-- The loop of `push_clues`: the lines of the clues so far are written.
use Rattle.puzzle_text.proofs.Names.{◌≡◌, ◌++◌, take, clue_lines}
use Rattle.puzzle_text.proofs.writing.push_clues.Given as goal

abbrev pub invariant-loop-clue : goal.invariant-loop-clue
invariant-loop-clue l = l.out.items ≡ l.fn.out.items ++ clue_lines l.separator (take l.clue-index l.clues)
