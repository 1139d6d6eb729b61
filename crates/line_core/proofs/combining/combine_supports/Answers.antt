-- `combine_supports`: each turn adds one more gap and the run after it; the gap after the last run is added at the end.
use Rattle.line_core.proofs.Names.{rules, arith, ◌≡◌, length, recursion_from_All}
use Rattle.line_core.proofs.GapRows.{stored_is}
use Rattle.line_core.proofs.CombiningLemmas.{combined_all, combined_gaps, combined_run}
use Rattle.line_core.proofs.combining.combine_supports.Goals as goal

pub add_gaps-requires : goal.add_gaps-requires
add_gaps-requires g c = λ κs within.
    let (feasible, rest) = c.requires.1.1.1 in
    let gap = stored_is _ _ c.args.gaps.now c.loop-j.j _ _ (omega arith) c.from_stored.ensures (feasible.gaps_are _ (omega arith)) in
    search rules

pub add_run-requires : goal.add_run-requires
add_run-requires g c = λ κs within.
    let (feasible, rest) = c.requires.1.1.1 in
    let end = stored_is _ _ c.args.ends.now c.loop-j.j _ _ (omega arith) c.from_stored-in-loop-j.ensures
    (feasible.ends_are _ c.loop-j-test.true) in
    search rules

pub loop-j-preserved : goal.loop-j-preserved
loop-j-preserved g c = record {
  combined = combined_run _ _ _ _ _ _ (combined_gaps _ _ _ _ _ _ c.loop-j.invariant.combined c.add_gaps.ensures) c.add_run.ensures;
  count = omega arith;
}

pub add_gaps-requires-2 : goal.add_gaps-requires-2
add_gaps-requires-2 g c = λ κs within.
    let (feasible, rest) = c.requires.1.1.1 in
    let gap = stored_is _ _ c.args.gaps.now (length c.args.clue.now) _ _ (omega arith) c.from_stored-last.ensures
    (feasible.gaps_are _ (omega arith)) in
    search rules

pub returns-clause-lookaheads : goal.returns-clause-lookaheads
returns-clause-lookaheads g c =
    let e : c.loop-j.j ≡ length c.args.clue.now = (let test = c.loop-j-test.false in omega arith) in
    combined_all g.line _ _ (recursion_from_All _ _ c.requires.1.1.1.1.0.lengths.positive)
    (combined_gaps _ _ _ _ _ _ (rw e at c.loop-j.invariant.combined) c.add_gaps-2.ensures)
