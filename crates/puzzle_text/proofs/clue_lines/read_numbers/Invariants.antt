-- The loop of `read_numbers`: the numbers so far, followed by those in `rest`, are the numbers of the line.
use Rattle.puzzle_text.proofs.Names.{◌≡◌, ◌<◌, false, get_or, length, MAX_SIDE, is_separator, pieces, numbers_within, some_with_front}
use Rattle.puzzle_text.proofs.clue_lines.read_numbers.Given as goal

abbrev pub invariant-pieces : goal.invariant-pieces
invariant-pieces l = record {
  so_far : some_with_front l.numbers.items (numbers_within MAX_SIDE (pieces l.rest)) ≡ numbers_within MAX_SIDE (pieces l.text);
  first : 0 < length l.rest → is_separator (get_or l.rest 0 0) ≡ false;
}

abbrev pub decreases-pieces : goal.decreases-pieces
decreases-pieces l = length l.rest
