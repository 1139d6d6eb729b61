-- `write_starts`: each turn scans one more run; its outermost feasible end determines its start.
use Rattle.line_core.proofs.Names.{IsOuterStart, written_more, length_at, add-one, refl, sym, ◌∙◌, arith, eqb-true, recursion_from_All, reversed_prefix, none_has, length-set}
use Rattle.line_core.proofs.Composing.{feasible_is}
use Rattle.line_core.proofs.Outermost.{some_end}
use Rattle.line_core.proofs.starts.write_starts.Goals as goal

pub overflow_sub-list : goal.overflow_sub-list
overflow_sub-list g c =
    let ends = c.next_run-ends.ensures.ends g.line (reversed_prefix 0 c.args.clue.now c.loop-j.j) c.loop-j.invariant.scan in
    (ends.to _ (c.intersection-feasible.ensures.to _ c.outermost_index.ensures.in_mask).0).0

pub loop-j-preserved : goal.loop-j-preserved
loop-j-preserved g c =
    let clue = c.args.clue.now in
    let j = c.loop-j.j in
    let index = c.outermost_index in
    let before = c.loop-j.invariant in
    let runs = reversed_prefix 0 clue j in
    let count = c.requires.1.1.1.1.0.few in
    let some = (length_at _ clue j c.requires.1.1.1.1.0 c.loop-j-test.true).0 in
    let end = feasible_is g.line clue j _ _ _ some (c.next_run-ends.ensures.ends g.line runs before.scan)
    (c.suffix_ends.ensures g.line c.requires.1.1.1.1.1.1) c.intersection-feasible.ensures in
    record {
      scan = rw (add-one j) (c.next_run-ends.ensures.scanned g.line runs before.scan);
      starts = written_more (IsOuterStart c.args.direction g.line _) _ j _ (omega arith) (record {
        end = index.result;
        feasible = end.to _ index.ensures.in_mask;
        start_is = refl;
        outermost_so = λ e w. index.ensures.outermost e (end.from e w);
      }) before.starts;
      len = length-set c.loop-j.list.starts j _ ∙ before.len;
    }

pub returns-then-is_empty-clause-starts : goal.returns-then-is_empty-clause-starts
returns-then-is_empty-clause-starts g c = λ p.
    let clue = c.args.clue.now in
    let j = c.loop-j.j in
    let e = some_end g.line clue j (recursion_from_All _ _ c.requires.1.1.1.1.0.positive) p c.loop-j-test.true in
    let some = (length_at _ clue j c.requires.1.1.1.1.0 c.loop-j-test.true).0 in
    let end = feasible_is g.line clue j _ _ _ some (c.next_run-ends.ensures.ends g.line (reversed_prefix 0 clue j) c.loop-j.invariant.scan)
    (c.suffix_ends.ensures g.line c.requires.1.1.1.1.1.1) c.intersection-feasible.ensures in
    absurd (none_has _ e.0 (eqb-true _ 0 (sym c.is_empty.ensures ∙ c.if-is_empty.true)) (end.from e.0 e.1))
