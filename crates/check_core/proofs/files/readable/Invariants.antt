-- The invariant of the loop of `readable`: the entries so far, followed by those of the files left, are all.
use Rattle.std.proofs.Common.{◌≡◌, ◌≤◌, ◌+◌, ◌++◌, length, map}
use Rattle.puzzle_text.specs.Shown.{shown_entry}
use Rattle.check_core.specs.Files.{readable, shown_file}
use Rattle.check_core.proofs.files.readable.Given as goal

abbrev pub invariant-loop-rest : goal.invariant-loop-rest
invariant-loop-rest l = record {
  entries : map shown_entry l.entries.items ++ readable (map shown_file l.rest) ≡ readable (map shown_file l.files);
  few : length l.entries.items + length l.rest ≤ length l.files;
}

abbrev pub decreases-loop-rest : goal.decreases-loop-rest
decreases-loop-rest l = length l.rest
