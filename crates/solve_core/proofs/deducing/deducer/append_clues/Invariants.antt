-- Invariant of the loop of `append_clues`: the clues passed are appended, and the capacity suffices for all.
use Rattle.solve_core.proofs.Names.{◌≡◌, ◌++◌, ◌+◌, ◌≤◌, length, take, vec_capacity}
use Rattle.solve_core.proofs.deducing.deducer.append_clues.Given as goal

abbrev pub invariant-loop-clue : goal.invariant-loop-clue
invariant-loop-clue l = record {
  items : l.list.items ≡ l.initial.list.items ++ take l.clue-index l.clues;
  capacity : length l.initial.list.items + length l.clues ≤ vec_capacity l.list;
}
