-- The loop invariant of `spread_levels`: the levels that are left have together the indices that all had at first.
use Rattle.std.proofs.Common.{◌-◌, map}
use Rattle.bit_sets.specs.Masks.{SomeLevel, AreLevelsOf}
use Rattle.bit_sets.proofs.levels.spread_levels.Given as goal

abbrev pub invariant-loop-k : goal.invariant-loop-k
invariant-loop-k g l =
    AreLevelsOf (SomeLevel g.W.BitSet.LOG2_WIDTH (map g.W.BitSet.bits l.fn.levels)) (g.W.BitSet.LOG2_WIDTH - l.k)
    (map g.W.BitSet.bits l.levels)
