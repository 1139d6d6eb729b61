-- The loop of `read_clue_line`: the line begins with the numbers so far and goes on with `rest`; without a number, `rest` is all of it.
use Rattle.puzzle_text.proofs.Names.{◌≡◌, ◌≤◌, [], length}
use Rattle.puzzle_text.proofs.FastLines.{PassesNumbers}
use Rattle.puzzle_text.proofs.fast_lines.read_clue_line.Given as goal

abbrev pub invariant-numbers : goal.invariant-numbers
invariant-numbers l = record {
  parsed : PassesNumbers l.text l.rest l.clue;
  start : l.clue ≡ [] → l.text ≡ l.rest;
  within : length l.rest ≤ length l.text;
}

abbrev pub decreases-numbers : goal.decreases-numbers
decreases-numbers l = length l.rest
