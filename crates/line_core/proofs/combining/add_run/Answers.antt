-- `add_run`: each turn adds what goes with one more end of the run.
use Rattle.line_core.proofs.Names.{rules, arith, ◌∙◌, sym, eqb-true, none_has}
use Rattle.line_core.proofs.SupportMasks.{masks_are}
use Rattle.line_core.proofs.CombiningLemmas.{end_left, lookaheads_more, lookaheads_same}
use Rattle.line_core.proofs.combining.add_run.Goals as goal

pub support_with_run-support-requires : goal.support_with_run-support-requires
support_with_run-support-requires g c = λ κs within.
    let (inside, (ends, (supports, rest))) = c.requires.1.1 in
    let end = end_left g.line _ _ _ _ _ _ _ _ _ _ c.loop-left.invariant c.first_index-end.ensures.in_mask ends supports.lengths inside in
    search rules

pub overflow_add-next : goal.overflow_add-next
overflow_add-next g c =
    let (inside, (ends, (supports, rest))) = c.requires.1.1 in
    let end = end_left g.line _ _ _ _ _ _ _ _ _ _ c.loop-left.invariant c.first_index-end.ensures.in_mask ends supports.lengths inside in
    omega arith

pub add_to_each-requires : goal.add_to_each-requires
add_to_each-requires g c =
    let (inside, (ends, (supports, rest))) = c.requires.1.1 in
    let end = end_left g.line _ _ _ _ _ _ _ _ _ _ c.loop-left.invariant c.first_index-end.ensures.in_mask ends supports.lengths inside in
    (let enough = end.0.0.0 in omega arith, omega arith)

pub loop-left-preserved : goal.loop-left-preserved
loop-left-preserved g c =
    lookaheads_more _ _ _ _ c.first_index-end.result _ _ _ _ c.loop-left.invariant c.first_index-end.ensures.in_mask c.with_bit-left.ensures
    (lookaheads_same _ _ _ _ _ c.add_to_each.ensures (λ x d k.
    let are = masks_are _ _ c.support_with_run-support.ensures d k in
    (λ (low, high, h). (low, high, are.0 h), λ (low, high, h). (low, high, are.1 h))))

pub returns : goal.returns
returns g c =
    let ends = c.requires.1.1.1.0 in
    let none = eqb-true _ 0 (sym c.is_empty.ensures ∙ c.loop-left-test.false) in
    lookaheads_same _ _ _ _ _ c.loop-left.invariant.more (λ x d k. (
      λ (e, here, _, (low, high, can)). (e, (omega arith, omega (arith, (ends.to e here).0.0), ends.to e here), can),
      λ (e, (low, high, whole), can). (e, ends.from e whole, none_has _ e none, (omega arith, omega arith, can)),
    ))
