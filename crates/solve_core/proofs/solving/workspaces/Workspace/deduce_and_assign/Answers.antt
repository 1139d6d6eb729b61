-- `Workspace::deduce_and_assign`: the deduced line is written, and the lines that cross it at a change are added to the
-- worklist.
use Rattle.solve_core.proofs.Names.{true≢false, ◌≡◌, ◌∙◌, ◌⊎◌, sym, refl, ap, subst, List, Cell, Axis, IsMaskOf, Has, IsChanged, mask_on, Some, same_without_change, length-deduced, state_of, rules}
use Rattle.solve_core.proofs.WorkspaceSteps.{clue-within, deduced_assigns, deduces-line, deduces-nothing, line-deduced, workspace-later}
use Rattle.solve_core.proofs.solving.workspaces.Workspace.deduce_and_assign.Goals as goal

pub deduce-requires : goal.deduce-requires
deduce-requires g c =
    let b = c.self.inside in
    let at = rw (← c.self.view_is) at c.clue_index-clue.ensures in
    rw at (clue-within b.deducer b.board c.self.invariant.puzzle c.args.axis c.args.i (rw (← c.self.view_is) at c.requires))

pub returns-in_default : goal.returns-in_default
returns-in_default g c =
    let b = c.self.inside in
    let at = rw (← c.self.view_is) at c.clue_index-clue.ensures in
    let l = rw (← c.self.view_is) at c.requires in
    let given = sym (line-deduced b.deducer b.board c.self.invariant.puzzle c.args.axis c.args.i _ _ l at c.line-old.ensures.cells)
    ∙ sym c.deduce.ensures.answer ∙ c.in_default.is in
    rw (← c.self.view_is, c.deduce.ensures.clues) (deduces-nothing (state_of b.deducer b.board b.dirty b.consistent) _ _ _ given)

pub diff-changes-requires : goal.diff-changes-requires
diff-changes-requires g c = search (rules, length-deduced)

pub returns-then-is_empty : goal.returns-then-is_empty
returns-then-is_empty g c =
    let b = c.self.inside in
    let at = rw (← c.self.view_is) at c.clue_index-clue.ensures in
    let l = rw (← c.self.view_is) at c.requires in
    let old = c.line-old.result.now in
    let given = sym c.in-Some.is ∙ c.deduce.ensures.answer in
    let same : old ≡ c.in-Some.new = (same_without_change old c.in-Some.new _ (length-deduced old c.in-Some.new _ given)
    c.diff-changes.ensures.changes).0 (sym c.is_empty.ensures ∙ c.if-is_empty.true) in
    let known = sym (line-deduced b.deducer b.board c.self.invariant.puzzle c.args.axis c.args.i _ _ l at c.line-old.ensures.cells)
    ∙ sym given ∙ ap Some (sym same ∙ c.line-old.ensures.cells) in
    rw (← c.self.view_is, c.deduce.ensures.clues) (deduces-nothing (state_of b.deducer b.board b.dirty b.consistent) _ _ _ (refl, known))

pub assign_line-requires : goal.assign_line-requires
assign_line-requires g c =
    let l = rw (← c.self.view_is) at c.requires in
    deduced_assigns c.self.inside.board _ _ _ _ _ _ l c.line-old.ensures.cells (sym c.in-Some.is ∙ c.deduce.ensures.answer)
    c.diff-changes.ensures.changes (sym c.is_empty.ensures ∙ c.if-is_empty.false)

pub invariant_of-self-2 : goal.invariant_of-self-2
invariant_of-self-2 g c = rw c.deduce.ensures.clues (workspace-later _ _ _ _ _ _ _ c.self.invariant c.assign_line.ensures.trail)

pub returns : goal.returns
returns g c =
    let b = c.self.inside in
    let at = rw (← c.self.view_is) at c.clue_index-clue.ensures in
    let l = rw (← c.self.view_is) at c.requires in
    let axis = c.args.axis in
    let old = c.line-old.result.now in
    let certain = c.in-Some.new in
    let given = sym c.in-Some.is ∙ c.deduce.ensures.answer in
    let same = same_without_change old certain _ (length-deduced old certain _ given) c.diff-changes.ensures.changes in
    let trail = c.assign_line.ensures.trail in
    let after = c.add.new.self in
    let added = subst (λ (s : Axis). IsMaskOf (λ k. Has (mask_on s b.dirty) k ⊎ Has (g.W.BitSet.bits c.diff-changes.result) k)
    (mask_on s after)) c.crossing.ensures c.add.ensures.own in
    rw (← c.self.view_is)
    (deduces-line (state_of b.deducer b.board b.dirty b.consistent) _ axis c.args.i
    (g.W.BitSet.bits c.diff-changes.result) certain c.self.invariant.puzzle c.self.invariant.board l
    (sym (line-deduced b.deducer b.board c.self.invariant.puzzle axis c.args.i _ _ l at c.line-old.ensures.cells) ∙ sym given)
    (subst (λ (r : List Cell). IsMaskOf (IsChanged r certain) (g.W.BitSet.bits c.diff-changes.result)) c.line-old.ensures.cells
    c.diff-changes.ensures.changes)
    (λ e. true≢false (sym (same.1 (c.line-old.ensures.cells ∙ sym e)) ∙ sym c.is_empty.ensures ∙ c.if-is_empty.false))
    (record { puzzle = rw (c.deduce.ensures.clues, trail.width, trail.height) refl; trail = trail; consistent = refl })
    c.assign_line.ensures.cells added (search (rules)))
