-- The invariant of the loop of `write_starts`: the prefix scan over the runs so far, and their outermost starts.
use Rattle.line_core.proofs.Names.{◌≡◌, ℕ, ◌<◌, get_or, length, map, reversed_prefix, IsScanOver, IsOuterStart}
use Rattle.line_core.proofs.starts.write_starts.Given as goal

abbrev pub invariant-loop-j : goal.invariant-loop-j
invariant-loop-j g l = record {
  scan : IsScanOver g.W.BitSet.WIDTH g.W.BitSet.LOG2_WIDTH g.line (reversed_prefix 0 l.clue l.j) (g.W.BitSet.bits l.scan.not_filled)
      (map g.W.BitSet.bits l.fits) (g.W.BitSet.bits l.scan.starts) (g.W.BitSet.bits l.scan.gap);
  starts : (k : ℕ) → k < l.j → IsOuterStart l.direction g.line l.clue k (get_or l.list.starts k 0);
  len : length l.list.starts ≡ length l.fn.list.starts;
}
