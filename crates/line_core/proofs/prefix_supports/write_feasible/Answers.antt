-- `write_feasible`: each turn scans one more run; of its ends and the gaps after it those are feasible that the suffix
-- sets allow.
use Rattle.line_core.proofs.Names.{length_at, add-one, ◌+◌, ◌∙◌, map, arith, length-set, map-set, length-map, IsMaskOf, reversed_prefix, IsPrefixGap, IsFeasibleEnd, meet_of, written_more, IsFeasibleGap}
use Rattle.line_core.proofs.Composing.{feasible_gap_is, feasible_is}
use Rattle.line_core.proofs.prefix_supports.write_feasible.Goals as goal

pub loop-j-init : goal.loop-j-init
loop-j-init g c =
    let bits = g.W.BitSet.stored_bits in
    let clue = c.args.clue.now in
    let gaps = c.args.gaps.now in
    let scan = c.new-scan.ensures g.line _ c.requires.1.1.1.0 c.fit_table-fits.ensures in
    let gap : IsMaskOf (IsPrefixGap g.line clue 0) (g.W.BitSet.bits c.gap.result) = rw c.gap.ensures scan.gap_is in
    let suffix = c.first_suffix_gap.ensures g.line c.write_suffixes.ensures in
    let whole = rw (← c.to_stored.ensures) at (meet_of _ _ _ _ _ gap suffix c.intersection-first.ensures) in
    record {
      scan = scan;
      gap_count = length-set gaps _ _ ∙ c.told-gaps;
      end_count = c.told-ends;
      gaps = λ k h. rw map-set (written_more (λ k m. IsMaskOf (IsFeasibleGap g.line clue k) m) (map bits gaps) 0 _
          (omega (arith, length-map gaps bits, c.told-gaps)) whole (λ k h. absurd (omega arith)) k (omega arith));
      ends = λ k h. absurd (omega arith);
    }

pub loop-j-preserved : goal.loop-j-preserved
loop-j-preserved g c =
    let bits = g.W.BitSet.stored_bits in
    let clue = c.args.clue.now in
    let gaps = c.loop-j.gaps in
    let ends = c.loop-j.ends in
    let j = c.loop-j.j in
    let before = c.loop-j.invariant in
    let scanned = c.next_run-run_ends.ensures.scanned g.line (reversed_prefix 0 clue j) before.scan in
    let gap : IsMaskOf (IsPrefixGap g.line clue (j + 1)) (g.W.BitSet.bits c.gap-in-loop-j.result) =
    rw (c.gap-in-loop-j.ensures, add-one j) scanned.gap_is in
    let suffix = c.suffix_ends-suffix.ensures g.line c.write_suffixes.ensures in
    let whole = rw (← c.to_stored-in-loop-j-2.ensures) at (feasible_gap_is g.line clue _ j _ _ _ _ c.loop-j-test.true
    c.requires.1.1.1.0.short gap suffix c.shifted_up.ensures c.intersection-gap.ensures) in
    let some = (length_at _ clue j c.requires.1.1.1.1 c.loop-j-test.true).0 in
    let end = rw (← c.to_stored-in-loop-j.ensures) at (feasible_is g.line clue j _ _ _ some
    (c.next_run-run_ends.ensures.ends g.line (reversed_prefix 0 clue j) before.scan) suffix c.intersection.ensures) in
    record {
      scan = rw (add-one j) scanned;
      gap_count = length-set gaps _ _ ∙ before.gap_count;
      end_count = length-set ends _ _ ∙ before.end_count;
      gaps = λ k h. rw map-set (written_more (λ k m. IsMaskOf (IsFeasibleGap g.line clue k) m) (map bits gaps) (j + 1) _
          (omega (arith, length-map gaps bits, before.gap_count, c.requires.1.1.1.1.few)) whole (λ k h. before.gaps k (omega arith)) k
          (omega arith));
      ends = λ k h. rw map-set (written_more (λ k m. IsMaskOf (IsFeasibleEnd g.line clue k) m) (map bits ends) j _
          (omega (arith, length-map ends bits, before.end_count, c.requires.1.1.1.1.few)) end (λ k h. before.ends k (omega arith)) k
          (omega arith));
    }
