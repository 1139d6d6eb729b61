-- The loop invariant of `spread`, by which the mask is spread by length `have`, and its measure.
use Rattle.std.proofs.Common.{◌-◌, ◌≤◌}
use Rattle.bit_sets.specs.Masks.{Has, IsMaskOf, SomeFrom}
use Rattle.bit_sets.proofs.levels.spread.Given as goal

abbrev pub invariant-loop-have : goal.invariant-loop-have
invariant-loop-have g l = record {
  some : 1 ≤ l.have;
  most : l.have ≤ l.length;
  spread : IsMaskOf (SomeFrom (Has (g.W.BitSet.bits l.fn.mask)) l.have) (g.W.BitSet.bits l.spread);
}

abbrev pub decreases-loop-have : goal.decreases-loop-have
decreases-loop-have g l = l.length - l.have
