-- The loop of `all_lines`: the lines so far, followed by those of `rest`, are the lines of the text.
use Rattle.puzzle_text.proofs.Names.{◌≡◌, ◌+◌, ◌++◌, ◌≤◌, length, map, raw_lines, numbered_from, lines, shown_line}
use Rattle.puzzle_text.proofs.lines.all_lines.Given as goal

abbrev pub invariant-loop-rest : goal.invariant-loop-rest
invariant-loop-rest l = record {
  so_far : map shown_line l.found.items ++ numbered_from (l.number + 1) (raw_lines l.rest) ≡ lines l.bytes;
  within : l.number + length l.rest ≤ length l.bytes;
}

abbrev pub decreases-loop-rest : goal.decreases-loop-rest
decreases-loop-rest l = length l.rest
