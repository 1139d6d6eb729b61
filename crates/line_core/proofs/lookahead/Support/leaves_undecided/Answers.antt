-- `Support::leaves_undecided`: each of the cells is in both masks.
use Rattle.line_core.proofs.Names.{has, inl, inr, subst, sym, ◌∙◌, cases_Bool, eqb-true, none_has, true_has}
use Rattle.line_core.proofs.SupportLaws.{either_first}
use Rattle.line_core.specs.Lookahead.{SupportMasks}
use Rattle.line_core.specs.steps.Lookahead.{LeavesUndecided}
use Rattle.line_core.proofs.lookahead.Support.leaves_undecided.Goals as goal

pub returns-then-contains : goal.returns-then-contains
returns-then-contains g c = λ empty.
    let cells = g.W.BitSet.bits c.args.cells in
    subst (λ (masks : SupportMasks). LeavesUndecided masks cells) c.self.view_is (record {
      alive = either_first _ _ _ c.union.ensures ∙ sym c.contains.ensures ∙ c.if-contains.true;
      both = λ i h. elim (cases_Bool (has (g.W.BitSet.bits c.intersection-both.result) i)) [
        | inl in_both ↦ c.intersection-both.ensures.to i (true_has _ i in_both)
        | inr lacking ↦ absurd (none_has _ i (eqb-true _ 0 (sym c.is_empty.ensures ∙ empty)) (c.difference.ensures.from i (h, lacking)))
      ];
    })
