-- The loop of `entry_count`: the count so far and the number of entries in `rest` add up to the number of all entries.
use Rattle.puzzle_text.proofs.Names.{◌≡◌, ◌+◌, ◌≤◌, length, raw_lines, entries_of}
use Rattle.puzzle_text.proofs.collections.entry_count.Given as goal

abbrev pub invariant-lines : goal.invariant-lines
invariant-lines l = record {
  counted : l.count + length (entries_of (raw_lines l.rest)) ≡ length (entries_of (raw_lines l.bytes));
  within : l.count + length l.rest ≤ length l.bytes;
}

abbrev pub decreases-lines : goal.decreases-lines
decreases-lines l = length l.rest
