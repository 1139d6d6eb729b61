-- `overlaps`: a run that is longer than the slack fills its overlap, and no other run has one.
use Rattle.line_core.proofs.Names.{rules, suc, add-one, arith, width_most}
use Rattle.line_core.proofs.Packing.{start_next, start_within, overlap_more}
use Rattle.line_core.proofs.overlaps.overlaps.Goals as goal
use Rattle.line_core.proofs.overlaps.overlaps.Goals.{then-number-slack, else-number-slack}

pub shifted_up-requires : goal.shifted_up-requires
shifted_up-requires g c =
    let next = start_next _ _ c.loop-number-test.true in
    omega (arith, c.requires.fits, c.loop-number.invariant.start, start_within c.args.clue.now (suc c.loop-number.number-index))

pub overflow_add-greatest_start-in-loop-number : goal.overflow_add-greatest_start-in-loop-number
overflow_add-greatest_start-in-loop-number g c = search (rules, width_most, start_next, start_within)

pub loop-number-preserved : goal.loop-number-preserved
loop-number-preserved g c =
    let clue = c.args.clue.now in
    let j = c.loop-number.number-index in
    let slack = c.args.slack in
    let invariant = c.loop-number.invariant in
    record {
      start = search (rules, add-one, start_next);
      found = elim c.if-number-slack.branch [
        | then-number-slack w ↦ rw w.overlap-is (overlap_more clue g.W.BitSet.WIDTH slack j c.loop-number.greatest_start _ _ _ _
            c.requires.fits c.loop-number-test.true w.if-number-slack.true invariant.start invariant.found w.prefix.ensures
            w.shifted_up.ensures w.union-overlap.ensures)
        | else-number-slack w ↦ rw w.overlap-is (search rules)
      ];
    }
