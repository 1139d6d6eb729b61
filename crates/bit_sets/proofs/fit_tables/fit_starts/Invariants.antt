-- The loop invariant of `fit_starts`, by which `starts` has the fits for length `have`, and its measure.
use Rattle.std.proofs.Common.{◌-◌, ◌≤◌}
use Rattle.bit_sets.specs.Masks.{Has, IsMaskOf, AllFrom}
use Rattle.bit_sets.proofs.fit_tables.fit_starts.Given as goal

abbrev pub invariant-loop-have : goal.invariant-loop-have
invariant-loop-have g l = record {
  some : 1 ≤ l.have;
  most : l.have ≤ l.length;
  starts : IsMaskOf (AllFrom (Has (g.W.BitSet.bits l.fn.mask)) l.have) (g.W.BitSet.bits l.starts);
}

abbrev pub decreases-loop-have : goal.decreases-loop-have
decreases-loop-have g l = l.length - l.have
