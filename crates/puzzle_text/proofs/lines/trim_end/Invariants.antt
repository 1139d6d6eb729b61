-- The loop of `trim_end`: all bytes dropped so far are blank.
use Rattle.puzzle_text.proofs.Names.{◌≡◌, length, trim_end}
use Rattle.puzzle_text.proofs.lines.trim_end.Given as goal

abbrev pub invariant-loop-bytes : goal.invariant-loop-bytes
invariant-loop-bytes l = trim_end l.bytes ≡ trim_end l.fn.bytes

abbrev pub decreases-loop-bytes : goal.decreases-loop-bytes
decreases-loop-bytes l = length l.bytes
