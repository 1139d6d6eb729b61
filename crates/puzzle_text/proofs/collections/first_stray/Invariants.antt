-- The loop of `first_stray`: no line so far is stray, so that the first stray line is in `rest`, if there is one.
use Rattle.puzzle_text.proofs.Names.{◌≡◌, ◌+◌, ◌≤◌, length, raw_lines, first_stray}
use Rattle.puzzle_text.proofs.CollectionLemmas.{stray_from}
use Rattle.puzzle_text.proofs.collections.first_stray.Given as goal

abbrev pub invariant-lines : goal.invariant-lines
invariant-lines l = record {
  later : stray_from (l.number + 1) l.inside (raw_lines l.rest) ≡ first_stray (raw_lines l.bytes);
  within : l.number + length l.rest ≤ length l.bytes;
}

abbrev pub decreases-lines : goal.decreases-lines
decreases-lines l = length l.rest
