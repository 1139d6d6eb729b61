-- The loop of `named_entries`: the entries so far, followed by those in `rest`, are all entries, and each so far has a name.
use Rattle.puzzle_text.proofs.Names.{◌≡◌, ◌++◌, ◌≤◌, map, length, raw_lines, entries_of, are_named}
use Rattle.puzzle_text.specs.declared.limits.TheConstants.{MAX_ENTRIES}
use Rattle.puzzle_text.specs.Shown.{shown_entry}
use Rattle.puzzle_text.proofs.collections.named_entries.Given as goal

abbrev pub invariant-lines : goal.invariant-lines
invariant-lines l = record {
  entries : map shown_entry l.found.items ++ entries_of (raw_lines l.rest) ≡ entries_of (raw_lines l.bytes);
  named : are_named (entries_of (raw_lines l.rest)) ≡ are_named (entries_of (raw_lines l.bytes));
  few : length l.found.items ≤ MAX_ENTRIES;
}

abbrev pub decreases-lines : goal.decreases-lines
decreases-lines l = length l.rest
