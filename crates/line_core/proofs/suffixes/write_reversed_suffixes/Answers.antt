-- `write_reversed_suffixes`: each turn writes the next starts, and then scans one more run of the mirrored line.
use Rattle.line_core.proofs.Names.{add-one, ◌≡◌, ◌∙◌, map, reverse, sym, arith, length, length-set, map-set, length-map, get_or-reverse, get_or-set_other, get_or-set_same, IsMaskOf, reversed_prefix, IsPrefixGap, written_more}
use Rattle.line_core.specs.steps.Feasibility.{IsNextStart}
use Rattle.line_core.proofs.suffixes.write_reversed_suffixes.Goals as goal

pub loop-j-init : goal.loop-j-init
loop-j-init g c = record {
  size = c.told-suffixes;
  scan = c.new-scan.ensures (reverse g.line) _ c.reversed-reversed.ensures c.fit_table-fits.ensures;
  starts = λ k h. absurd (omega arith);
}

pub loop-j-preserved : goal.loop-j-preserved
loop-j-preserved g c =
    let line = reverse g.line in
    let clue = reverse c.args.clue.now in
    let sets = c.loop-j.suffixes in
    let j = c.loop-j.j in
    let before = c.loop-j.invariant in
    let e = sym (get_or-reverse c.args.clue.now j 0 c.loop-j-test.true) in
    let starts = rw (← c.starts.ensures, ← c.to_stored.ensures) at before.scan.starts_are in
    record {
      size = length-set sets _ _ ∙ before.size;
      scan = rw (add-one j) (rw e at (c.next_run.ensures.scanned line (reversed_prefix 0 clue j) before.scan));
      starts = λ k h. rw map-set (written_more (λ k m. IsMaskOf (IsNextStart g.W.BitSet.WIDTH line (reversed_prefix 0 clue k)) m)
          (map g.W.BitSet.stored_bits sets) j _ (omega (arith, length-map sets g.W.BitSet.stored_bits, before.size, c.requires.1.1.1.1))
          starts before.starts k h);
    }

pub returns-clause-suffixes : goal.returns-clause-suffixes
returns-clause-suffixes g c =
    let clue = c.args.clue.now in
    let bits = g.W.BitSet.stored_bits in
    let sets = c.loop-j.suffixes in
    let before = c.loop-j.invariant in
    let last : c.loop-j.j ≡ length clue = omega (arith, c.loop-j-test.false) in
    let gap : IsMaskOf (IsPrefixGap (reverse g.line) (reverse clue) (length clue)) (bits c.to_stored-2.result) =
    rw (c.to_stored-2.ensures, c.gap.ensures) (rw last at before.scan.gap_is) in
    record {
      starts = λ k h. rw (map-set, get_or-set_other (map bits sets) (length clue) k _ 0 (omega arith)) (before.starts k (omega arith));
      gap = rw (
        map-set,
        get_or-set_same (map bits sets) (length clue) _ 0
            (omega (arith, length-map sets bits, before.size, c.requires.1.1.1.1)),
      ) gap;
    }
