-- `u128::flood`: the carries of the sum are the flood.
use Rattle.bit_sets.proofs.Flooding.{flooded}
use Rattle.bit_sets.proofs.narrow.U128BitSet.flood.Goals as goal

pub returns : goal.returns
returns c =
    flooded 128 c.args.sources c.args.free _ _ _ c.ranges.sources.fits c.ranges.free.fits c.requires
    c.symmetric_difference-changed.ensures c.intersection.ensures c.union.ensures
