-- `write_prefix_supports`: each turn of the loop writes the row for one more run.
use Rattle.line_core.proofs.Names.{rules, ℕ, Has, ◌+◌, arith}
use Rattle.line_core.proofs.GapRows.{stored_is, rows_none}
use Rattle.line_core.proofs.prefix_supports.write_prefix_supports.Goals as goal

pub write_first-requires : goal.write_first-requires
write_first-requires g c = λ κs within.
    let (len, (are, (feasible, table))) = c.requires.1.1.1.1 in
    let gap = stored_is _ _ c.args.gaps.now 0 _ _ (omega arith) c.from_stored.ensures (feasible.gaps_are _ (omega arith)) in
    let gaps = λ (i : ℕ) (h : Has (g.W.BitSet.bits c.from_stored.result) i). (gap.to i h).0 in search rules

pub loop-j-init : goal.loop-j-init
loop-j-init g c =
    let (len, (are, (feasible, table))) = c.requires.1.1.1.1 in
    let gap = stored_is _ _ c.args.gaps.now 0 _ _ (omega arith) c.from_stored.ensures (feasible.gaps_are _ (omega arith)) in
    record { size = c.write_first.ensures.count; rows = rows_none _ g.line _ _ (λ i h. c.write_first.ensures.row i (gap.from i h)) }

pub write_row-requires : goal.write_row-requires
write_row-requires g c = λ κs within.
    let (len, (are, (feasible, table))) = c.requires.1.1.1.1 in
    let j = c.loop-j.j in
    let gap = stored_is _ _ c.args.gaps.now (j + 1) _ _ (omega arith) c.from_stored-next.ensures (feasible.gaps_are _ (omega arith)) in
    let end = stored_is _ _ c.args.ends.now j _ _ (omega arith) c.from_stored-run_ends.ensures (feasible.ends_are _ c.loop-j-test.true) in
    search rules
