-- The invariant of the loop of `write_feasible`: the prefix scan over the runs so far, and their feasible gaps and ends.
use Rattle.line_core.proofs.Names.{◌≡◌, ℕ, ◌<◌, ◌≤◌, length, get_or, map, IsMaskOf, reversed_prefix, IsFeasibleEnd, IsScanOver, IsFeasibleGap}
use Rattle.line_core.proofs.prefix_supports.write_feasible.Given as goal

abbrev pub ghost-write_suffixes : goal.ghost-write_suffixes
ghost-write_suffixes g a = g.line

abbrev pub invariant-loop-j : goal.invariant-loop-j
invariant-loop-j g l = record {
  scan : IsScanOver g.W.BitSet.WIDTH g.W.BitSet.LOG2_WIDTH g.line (reversed_prefix 0 l.clue l.j) (g.W.BitSet.bits l.scan.not_filled)
      (map g.W.BitSet.bits l.fits) (g.W.BitSet.bits l.scan.starts) (g.W.BitSet.bits l.scan.gap);
  gap_count : length l.gaps ≡ 129;
  end_count : length l.ends ≡ 129;
  gaps : (k : ℕ) → k ≤ l.j → IsMaskOf (IsFeasibleGap g.line l.clue k) (get_or (map g.W.BitSet.stored_bits l.gaps) k 0);
  ends : (k : ℕ) → k < l.j → IsMaskOf (IsFeasibleEnd g.line l.clue k) (get_or (map g.W.BitSet.stored_bits l.ends) k 0);
}
