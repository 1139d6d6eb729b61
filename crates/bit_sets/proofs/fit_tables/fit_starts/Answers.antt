-- `fit_starts`: each iteration doubles the length of the fits, and the last step adds what is left.
use Rattle.std.proofs.Common.{arith}
use Rattle.bit_sets.proofs.Steps.{widen}
use Rattle.bit_sets.proofs.fit_tables.fit_starts.Goals as goal

pub loop-have-preserved : goal.loop-have-preserved
loop-have-preserved g c = record {
  some = omega (arith, c.loop-have.invariant.some);
  most = omega (arith, c.loop-have-test.true);
  starts = widen _ _ _ _ _ _ c.loop-have.invariant.starts c.and_shifted-starts.ensures (omega arith) (omega arith);
}

pub returns : goal.returns
returns g c =
    let before = c.loop-have.invariant in
    widen _ _ _ _ _ _ before.starts c.and_shifted.ensures (omega (arith, c.loop-have-test.false)) (omega (arith, before.most))
