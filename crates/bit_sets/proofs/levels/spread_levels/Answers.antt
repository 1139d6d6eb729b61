-- `spread_levels`: each level is joined to the one below, and level 0 needs no spreading.
use Rattle.std.proofs.Common.{◌≡◌, ◌+◌, ◌-◌, map, arith}
use Rattle.std.proofs.lemmas.List.{get_or-map}
use Rattle.bit_sets.proofs.LevelSteps.{lowest_is}
use Rattle.bit_sets.proofs.levels.spread_levels.Goals as goal

pub loop-k-preserved : goal.loop-k-preserved
loop-k-preserved g c =
    let top = g.W.BitSet.LOG2_WIDTH in
    let k = c.loop-k.k in
    let test = c.loop-k-test.true in
    let above : c.LOG2_WIDTH.result - 1 - k + 1 ≡ top - k = omega (arith, c.LOG2_WIDTH.ensures, c.LOG2_WIDTH-k-end.ensures) in
    let here : c.LOG2_WIDTH.result - 1 - k ≡ top - (k + 1) = omega (arith, c.LOG2_WIDTH.ensures, c.LOG2_WIDTH-k-end.ensures) in
    let r = rw (above, here) at c.spread_into.ensures in
    record { to = λ i x. c.loop-k.invariant.to i (r.to i x); from = λ i x. r.from i (c.loop-k.invariant.from i x) }

pub returns : goal.returns
returns g c =
    let bits = g.W.BitSet.bits in
    let levels = c.loop-k.levels in
    let end : g.W.BitSet.LOG2_WIDTH - c.loop-k.k ≡ 0 = omega (arith, c.LOG2_WIDTH-k-end.ensures, c.loop-k-test.false) in
    let at = get_or-map bits levels 0 c.index-levels-0.result 0 (omega (arith, c.type_inv.levels)) in
    rw (← at) (lowest_is _ _ (map bits levels) end c.loop-k.invariant)
