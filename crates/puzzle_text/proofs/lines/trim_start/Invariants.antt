-- The loop of `trim_start`: all bytes dropped so far are blank.
use Rattle.puzzle_text.proofs.Names.{◌≡◌, length, trim_start}
use Rattle.puzzle_text.proofs.lines.trim_start.Given as goal

abbrev pub invariant-loop-bytes : goal.invariant-loop-bytes
invariant-loop-bytes l = trim_start l.bytes ≡ trim_start l.fn.bytes

abbrev pub decreases-loop-bytes : goal.decreases-loop-bytes
decreases-loop-bytes l = length l.bytes
