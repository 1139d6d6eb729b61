-- The loop of `read_clue_lines`: the lines so far are read as the clues so far.
use Rattle.puzzle_text.proofs.Names.{◌≡◌, ◌+◌, ◌-◌, ◌≤◌, length, vec_capacity, vec_len, ReadsClues}
use Rattle.puzzle_text.proofs.fast_lines.read_clue_lines.Given as goal

abbrev pub invariant-lines : goal.invariant-lines
invariant-lines l = record {
  parsed : ReadsClues l.text l.clues.items l.rest;
  capacity : vec_capacity l.clues ≡ l.count;
  within : length l.clues.items + length l.rest ≤ length l.text;
}

abbrev pub decreases-lines : goal.decreases-lines
decreases-lines l = l.count - vec_len l.clues
