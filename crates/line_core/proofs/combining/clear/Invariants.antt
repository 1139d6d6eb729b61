-- The invariant of the loop of `clear`: the lookaheads before an index are empty.
use Rattle.line_core.proofs.Names.{◌≡◌, ℕ, ◌<◌, length, get_or, no_lookahead}
use Rattle.line_core.proofs.combining.clear.Given as goal

abbrev pub invariant-loop-index : goal.invariant-loop-index
invariant-loop-index g l = record {
  none : (x : ℕ) → x < l.index → get_or l.lookaheads x no_lookahead ≡ no_lookahead;
  count : length l.lookaheads ≡ length l.fn.lookaheads;
}
