-- The loop of `filled_if_fitting`: each clue so far fits, and `sum` is the sum of their numbers, at most 32,768 for each.
use Rattle.puzzle_text.proofs.Names.{◌≡◌, ◌*◌, ◌≤◌, take, true, list_all, fits, sum_all}
use Rattle.puzzle_text.proofs.fitting.filled_if_fitting.Given as goal

abbrev pub invariant-loop-clue : goal.invariant-loop-clue
invariant-loop-clue l = record {
  fit : list_all (fits l.len) (take l.clue-index l.clues) ≡ true;
  so_far : l.sum ≡ sum_all (take l.clue-index l.clues);
  within : l.sum ≤ l.clue-index * 32768;
}
