-- `write_first`: the cells up to a gap with no run before it are blank.
use Rattle.line_core.proofs.Names.{rules, true, false, ◌∙◌, ◌<◌, length, sym, arith, mask_same, none_is, true≢false}
use Rattle.line_core.proofs.ColouredGaps.{first_to, first_from}
use Rattle.line_core.proofs.GapRows.{walk_more, walk_last}
use Rattle.line_core.proofs.prefix_supports.write_first.Goals as goal

pub offset_bounds-row-from : goal.offset_bounds-row-from
offset_bounds-row-from g c =
    let gap = c.requires.1.1.1.1.1.0 _ (c.loop-left.invariant.within _ c.first_index-index.ensures.in_mask) in
    let here : c.from.result < length c.args.row.now = omega (arith, gap.0.0, c.requires.1.1.1.1.1.1, c.from.ensures) in search rules

pub mirrored_cells-requires-clause-count : goal.mirrored_cells-requires-clause-count
mirrored_cells-requires-clause-count g c =
    let gap = c.requires.1.1.1.1.1.0 _ (c.loop-left.invariant.within _ c.first_index-index.ensures.in_mask) in
    (omega arith, omega (arith, gap.0.0, c.requires.1.1.1.0.0))

pub loop-left-preserved : goal.loop-left-preserved
loop-left-preserved g c =
    let index = c.first_index-index.result in
    let gap = c.requires.1.1.1.1.1.0 index (c.loop-left.invariant.within index c.first_index-index.ensures.in_mask) in
    walk_more _ _ _ index _ _ _ _ _ (omega (arith, gap.0.0, c.requires.1.1.1.1.1.1, c.loop-left.auto.row)) c.from.ensures
    c.with_bit-left.ensures (record {
      fillable_is = none_is _ _ c.empty.ensures (λ k h. true≢false (first_to g.line index true _ h.1).1);
      blankable_is =
          mask_same _ _ _ (rw c.requires.1.1.1.0.0 at c.mirrored_cells.ensures)
          (λ k h. (h.0, first_from g.line index _ gap (omega (arith, h.2))))
          (λ k h. (h.0, omega arith, omega (arith, (first_to g.line index false _ h.1).0)));
    }) c.loop-left.invariant

pub returns-clause-row : goal.returns-clause-row
returns-clause-row g c = walk_last _ _ _ _ _ (sym c.is_empty.ensures ∙ c.loop-left-test.false) c.loop-left.invariant
