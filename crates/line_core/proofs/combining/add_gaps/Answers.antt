-- `add_gaps`: each turn adds what goes with one more gap.
use Rattle.line_core.proofs.Names.{arith, ◌≡◌, ◌∙◌, sym, eqb-true, none_has}
use Rattle.line_core.proofs.SupportMasks.{masks_are}
use Rattle.line_core.proofs.CombiningLemmas.{lookaheads_more, lookaheads_same}
use Rattle.line_core.proofs.combining.add_gaps.Goals as goal

pub loop-left-preserved : goal.loop-left-preserved
loop-left-preserved g c =
    lookaheads_more _ _ _ _ c.first_index-index.result _ _ _ _ c.loop-left.invariant c.first_index-index.ensures.in_mask
    c.with_bit-left.ensures
    (lookaheads_same _ _ _ _ _ c.add_to_each.ensures (λ x d k.
    let are = masks_are _ _ c.support_with_gap-support.ensures d k in
    (λ (low, high, h). (low, high, are.0 h), λ (low, high, h). (low, high, are.1 h))))

pub returns : goal.returns
returns g c =
    let gaps = c.requires.1.1.1.0 in
    let none = eqb-true _ 0 (sym c.is_empty.ensures ∙ c.loop-left-test.false) in
    lookaheads_same _ _ _ _ _ c.loop-left.invariant.more (λ x d k. (
      λ (i, here, _, (low, high, can)). let e : x ≡ i = omega arith in rw e (gaps.to i here, can),
      λ (whole, can). (x, gaps.from x whole, none_has _ x none, (omega arith, omega arith, can)),
    ))
