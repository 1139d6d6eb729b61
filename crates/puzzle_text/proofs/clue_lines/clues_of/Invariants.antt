-- The loop of `clues_of`: the clues so far, followed by those of the lines to come, are those of all lines.
use Rattle.puzzle_text.proofs.Names.{◌≡◌, drop, length, map, vec_capacity, vec_len, MAX_SIDE, BadNumber, or_fault, each, clue_of, clues_of, shown_line, with_front}
use Rattle.puzzle_text.proofs.clue_lines.clues_of.Given as goal

abbrev pub invariant-loop-line : goal.invariant-loop-line
invariant-loop-line l = record {
  count : vec_len l.clues ≡ l.line-index;
  capacity : vec_capacity l.clues ≡ length l.lines;
  so_far : with_front l.clues.items
      (each (λ line. or_fault (BadNumber line.number) (clue_of MAX_SIDE line.text.now)) (drop l.line-index l.lines))
      ≡ clues_of MAX_SIDE (map shown_line l.lines);
}
