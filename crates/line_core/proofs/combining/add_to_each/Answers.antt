-- `add_to_each`: each turn adds the support to the lookahead of one more cell.
use Rattle.line_core.proofs.Names.{rules, arith}
use Rattle.line_core.proofs.CombiningLemmas.{lookaheads_one, lookaheads_same}
use Rattle.line_core.proofs.combining.add_to_each.Goals as goal

pub loop-index-preserved : goal.loop-index-preserved
loop-index-preserved g c =
    lookaheads_one _ _ c.loop-index.index _ _ _ _ _ _ c.from.ensures (omega (arith, c.loop-index.invariant.count, c.requires.1))
    (omega arith)
    c.loop-index.invariant c.add_if.ensures.more c.add_if.ensures.other

pub returns : goal.returns
returns g c = lookaheads_same _ _ _ _ _ c.loop-index.invariant (λ x d k. search rules)
