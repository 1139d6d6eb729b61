-- `scanned_support`: each turn scans one more run, and adds its cells and the gap after it to the support masks.
use Rattle.line_core.proofs.Names.{add-one, ◌≡◌, ◌+◌, ◌<◌, length, arith, IsMaskOf, reversed_prefix, IsPrefixGap, length_at, mask_same, levels_none, none_at}
use Rattle.line_core.proofs.Composing.{blank_first, blank_more, feasible_gap_is, feasible_is, fill_more}
use Rattle.line_core.proofs.deduction.scanned_support.Goals as goal

pub loop-j-init : goal.loop-j-init
loop-j-init g c =
    let clue = c.args.clue.now in
    let scan = c.new-scan.ensures g.line _ c.requires.1.1.1.0 c.fit_table-fits.ensures in
    let gap : IsMaskOf (IsPrefixGap g.line clue 0) (g.W.BitSet.bits c.gap.result) = rw c.gap.ensures scan.gap_is in record {
      scan = scan;
      blank =
          blank_first g.line clue _ _ _ gap (c.first_suffix_gap.ensures g.line c.requires.1.1.1.1.1) c.intersection-blankable.ensures;
      filled = levels_none _ g.W.BitSet.LOG2_WIDTH _ (none_at g.W.BitSet.bits c.empty-spread.result c.empty-spread.ensures 9)
          (λ i h. let b : h.0 < 0 = h.1 in absurd (omega arith));
    }

pub loop-j-preserved : goal.loop-j-preserved
loop-j-preserved g c =
    let clue = c.args.clue.now in
    let j = c.loop-j.j in
    let before = c.loop-j.invariant in
    let runs = reversed_prefix 0 clue j in
    let some = (length_at _ clue j c.requires.1.1.1.1.0 c.loop-j-test.true).0 in
    let suffix = c.suffix_ends-suffix.ensures g.line c.requires.1.1.1.1.1 in
    let end = feasible_is g.line clue j _ _ _ some (c.next_run-ends.ensures.ends g.line runs before.scan) suffix
    c.intersection-feasible.ensures in
    let scanned = c.next_run-ends.ensures.scanned g.line runs before.scan in
    let gap : IsMaskOf (IsPrefixGap g.line clue (j + 1)) (g.W.BitSet.bits c.gap-in-loop-j.result) =
    rw (c.gap-in-loop-j.ensures, add-one j) scanned.gap_is in
    let part = feasible_gap_is g.line clue _ j _ _ _ _ c.loop-j-test.true c.requires.1.1.1.0.short gap suffix c.shifted_up.ensures
    c.intersection.ensures in
    record {
      scan = rw (add-one j) scanned;
      blank = blank_more g.line clue j _ _ _ before.blank part c.union-blankable.ensures;
      filled = fill_more g.line clue g.W.BitSet.LOG2_WIDTH j _ _ _ end c.add_spread.ensures before.filled;
    }

pub returns-clause-filled : goal.returns-clause-filled
returns-clause-filled g c =
    let last : c.loop-j.j ≡ length c.args.clue.now = omega (arith, c.loop-j-test.false) in
    let filled = rw last at c.loop-j.invariant.filled in
    mask_same _ _ _ c.spread_levels.ensures filled.to filled.from

pub returns-clause-blank : goal.returns-clause-blank
returns-clause-blank g c =
    let last : c.loop-j.j ≡ length c.args.clue.now = omega (arith, c.loop-j-test.false) in rw last at c.loop-j.invariant.blank
