-- `fit_starts_in_table`: two stretches of the length's level, the second one ending at the end, make one of the length.
use Rattle.std.proofs.Common.{arith}
use Rattle.std.proofs.lemmas.List.{get_or-map}
use Rattle.bit_sets.proofs.Doubling.{level_within}
use Rattle.bit_sets.proofs.Steps.{widen}
use Rattle.bit_sets.proofs.fit_tables.fit_starts_in_table.Goals as goal

pub returns : goal.returns
returns g c = λ mask are.
    let of = c.level_of-level.ensures in
    let level = c.level_of-level.result.0 in
    let low = level_within level c.args.length _ _ (omega (arith, of.length)) c.requires.1 g.met.W.BitSet.width_is in
    let was = get_or-map g.W.BitSet.bits c.args.table.now level _ 0 (omega (arith, c.told-table, of.level)) in
    widen _ _ _ _ _ _ (rw was at (are.each level low)) c.and_shifted.ensures (omega (arith, of.rest)) of.length
