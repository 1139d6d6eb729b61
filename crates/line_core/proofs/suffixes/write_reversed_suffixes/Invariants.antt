-- The invariant of the loop of `write_reversed_suffixes`: the prefix scan over the mirrored line, and its next starts so
-- far.
use Rattle.line_core.proofs.Names.{◌≡◌, ℕ, ◌<◌, length, get_or, reverse, map, IsMaskOf, reversed_prefix, IsScanOver}
use Rattle.line_core.specs.steps.Feasibility.{IsNextStart}
use Rattle.line_core.proofs.suffixes.write_reversed_suffixes.Given as goal

abbrev pub ghost-reversed : goal.ghost-reversed
ghost-reversed g a = g.line

abbrev pub invariant-loop-j : goal.invariant-loop-j
invariant-loop-j g l = record {
  size : length l.suffixes ≡ 129;
  scan : IsScanOver g.W.BitSet.WIDTH g.W.BitSet.LOG2_WIDTH (reverse g.line) (reversed_prefix 0 (reverse l.clue) l.j)
      (g.W.BitSet.bits l.scan.not_filled)
      (map g.W.BitSet.bits l.fits) (g.W.BitSet.bits l.scan.starts) (g.W.BitSet.bits l.scan.gap);
  starts : (k : ℕ) → k < l.j
      → IsMaskOf (IsNextStart g.W.BitSet.WIDTH (reverse g.line) (reversed_prefix 0 (reverse l.clue) k))
      (get_or (map g.W.BitSet.stored_bits l.suffixes) k 0);
}
