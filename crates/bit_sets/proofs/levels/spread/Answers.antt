-- `spread`: each iteration doubles the length, and the last step adds what is left.
use Rattle.std.proofs.Common.{arith}
use Rattle.bit_sets.proofs.LevelSteps.{spread_more}
use Rattle.bit_sets.proofs.levels.spread.Goals as goal

pub loop-have-preserved : goal.loop-have-preserved
loop-have-preserved g c = record {
  some = omega (arith, c.loop-have.invariant.some);
  most = omega (arith, c.loop-have-test.true);
  spread = spread_more _ _ _ _ _ _ c.loop-have.invariant.spread c.or_shifted-spread.ensures (omega arith) (omega arith);
}

pub returns : goal.returns
returns g c =
    let before = c.loop-have.invariant in
    spread_more _ _ _ _ _ _ before.spread c.or_shifted.ensures (omega (arith, c.loop-have-test.false)) (omega (arith, before.most))
