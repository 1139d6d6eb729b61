-- The invariant of the loop of `scanned_support`: the prefix scan over the runs so far, and the support by these runs
-- and their gaps.
use Rattle.line_core.proofs.Names.{ℕ, ◌<◌, ◌≤◌, get_or, map, IsMaskOf, SomeFrom, AreLevelsOf, reversed_prefix, IsPrefixGap, IsSuffixGap, IsFeasibleEnd, IsScanOver}
use Rattle.line_core.proofs.deduction.scanned_support.Given as goal

abbrev pub invariant-loop-j : goal.invariant-loop-j
invariant-loop-j g l = record {
  scan : IsScanOver g.W.BitSet.WIDTH g.W.BitSet.LOG2_WIDTH g.line (reversed_prefix 0 l.clue l.j) (g.W.BitSet.bits l.scan.not_filled)
      (map g.W.BitSet.bits l.fits) (g.W.BitSet.bits l.scan.starts) (g.W.BitSet.bits l.scan.gap);
  blank : IsMaskOf (λ i. (q : ℕ) × (q ≤ l.j) × IsPrefixGap g.line l.clue q i × IsSuffixGap g.line l.clue q i) (g.W.BitSet.bits l.blankable);
  filled : AreLevelsOf (λ i. (q : ℕ) × (q < l.j) × SomeFrom (IsFeasibleEnd g.line l.clue q) (get_or l.clue q 0) i) g.W.BitSet.LOG2_WIDTH
      (map g.W.BitSet.bits l.spread);
}
