-- `add_spread`: the mask, spread by the rest of the length, is joined to the level of the length.
use Rattle.std.proofs.Common.{arith}
use Rattle.bit_sets.proofs.Doubling.{level_within}
use Rattle.bit_sets.proofs.LevelSteps.{level_set}
use Rattle.bit_sets.proofs.levels.add_spread.Goals as goal

pub returns : goal.returns
returns g c =
    let of = c.level_of-level.ensures in
    let level = c.level_of-level.result.0 in
    let top = g.W.BitSet.LOG2_WIDTH in
    let low = level_within level c.args.length _ top (omega (arith, of.length)) c.requires.1 g.met.W.BitSet.width_is in
    let set =
    level_set g.W.BitSet.bits c.args.levels.now top level _ _ _ _ _ _ low (omega (arith, c.told-levels, of.level))
    (omega (arith, of.rest)) of.length c.or_shifted.ensures c.union.ensures in
    record { to = λ i. (set i).0; from = λ i. (set i).1 }
