-- `fit_table`: a stretch of each level is two of the level below, one directly after the other.
use Rattle.std.proofs.Common.{◌<◌, ◌∙◌, arith}
use Rattle.std.proofs.Math.ListN.{length-set}
use Rattle.std.proofs.lemmas.Nat.{one_shl}
use Rattle.bit_sets.proofs.Doubling.{fits_more, step_within}
use Rattle.bit_sets.proofs.fit_tables.fit_table.Goals as goal

pub and_shifted-requires : goal.and_shifted-requires
and_shifted-requires g c =
    step_within c.loop-level.level _ _ (omega (arith, c.LOG2_WIDTH-level-end.ensures, c.loop-level-test.true))
    g.met.W.BitSet.top_is.1 g.met.W.BitSet.width_is

pub loop-level-preserved : goal.loop-level-preserved
loop-level-preserved g c =
    let level = c.loop-level.level in
    let table = c.loop-level.table in
    let inv = c.loop-level.invariant in
    let below : level < 8 = omega (arith, c.LOG2_WIDTH-level-end.ensures, c.loop-level-test.true, g.met.W.BitSet.top_is.1) in
    record {
      size = length-set table _ _ ∙ inv.size;
      each = fits_more g.W.BitSet.bits (g.W.BitSet.bits c.args.mask) table level _ _ _ (omega (arith, inv.size))
          (one_shl level 16 (omega arith)) c.and_shifted.ensures inv.each;
    }
