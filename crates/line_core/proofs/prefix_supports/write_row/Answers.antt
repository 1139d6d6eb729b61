-- `write_row`: each turn of the loop writes the prefix support of one more gap, which is then the last one.
use Rattle.line_core.proofs.Names.{common_steps, IsPrefixSupport, SupportMasks, ◌+◌, ◌≡◌, ◌*◌, ◌++◌, ℕ, get_or, rules, ◌∙◌, ◌<◌, length, sym, arith, one_within, reversed_prefix, get_or-append-add, no_support}
use Rattle.line_core.proofs.GapRows.{last_more, left_inside, next_prefix_support, rows_more, walk_last, walk_more}
use Rattle.line_core.proofs.prefix_supports.write_row.Goals as goal

pub shifted_up-longer-requires : goal.shifted_up-longer-requires
shifted_up-longer-requires g c = one_within g.W.BitSet.WIDTH g.W.BitSet.LOG2_WIDTH g.met.W.BitSet.top_is.0 g.met.W.BitSet.width_is

pub shifted_up-ended-requires : goal.shifted_up-ended-requires
shifted_up-ended-requires g c = one_within g.W.BitSet.WIDTH g.W.BitSet.LOG2_WIDTH g.met.W.BitSet.top_is.0 g.met.W.BitSet.width_is

pub offset_bounds-row-from : goal.offset_bounds-row-from
offset_bounds-row-from g c =
    let inside = left_inside g.line _ _ _ _ _ _ _ c.loop-longer.invariant.walk c.first_index-index.ensures.in_mask
    c.requires.1.1.1.1.1.1.0.gaps_are c.requires.1.1.1.1.1.1.1.short in
    let here : c.from.result < length c.args.table.now = omega (arith, c.requires.1.1.1.1.1.1.1.size, c.from.ensures) in
    search (rules, c.well_formed)

pub loop-longer-preserved : goal.loop-longer-preserved
loop-longer-preserved g c =
    let (len, (are, (jl, (feasible, table)))) = c.requires.1.1.1 in
    let j = c.args.j in
    let gaps = feasible.gaps_are in
    let ends = feasible.ends_are in
    let old = c.loop-longer.invariant in
    let first = c.first_index-index.ensures in
    let split = c.split_at_mut-done.ensures in
    let here = old.walk.within _ first.in_mask in
    let before = c.split_at_mut-before.result.1.now in
    let front : (k : ℕ) → k < 128 → get_or before k no_support ≡ get_or c.args.table.now (128 * j + k) no_support =
    λ k h. grind (arith, common_steps) in
    let given =
    next_prefix_support _ g.line c.args.clue.now c.args.j _ _ _ _ _ _ _ _ _ _ _ _ are jl table.short gaps ends c.shifted_up-longer.ensures
    c.shifted_up-ended.ensures first.within here first.in_mask first.least front (table.rows j (omega arith)) old.last
    (rw len.0 at c.gap_support-in_gap.ensures) (rw len.0 at c.prefix_support-last.ensures) in record {
      walk = walk_more _ _ _ c.first_index-index.result _ _ _ _ _ (omega (arith, (gaps.to _ here).0.0.0, split.back_len)) c.from.ensures
          c.with_bit-left.ensures (rw c.copied.ensures given) old.walk;
      last = last_more {A = SupportMasks} _ _ _ _ (IsPrefixSupport _ g.line (reversed_prefix 0 c.args.clue.now (c.args.j + 1))) _ _
          first.in_mask first.least c.with_bit-left.ensures given old.last;
    }

pub returns : goal.returns
returns g c =
    let j = c.args.j in
    let done = c.split_at_mut-before.result.0.now ++ c.split_at_mut-before.result.1.now in
    let long : length done ≡ 128 * (j + 1) = grind (arith, common_steps) in
    let (len, (are, (jl, (feasible, table)))) = c.requires.1.1.1 in
    let none = sym c.is_empty.ensures ∙ c.loop-longer-test.false in
    record {
      rows = rows_more _ g.line c.args.clue.now j _ _ table.short table.rows
          (λ i h. rw (rw long at (get_or-append-add done c.loop-longer.row i no_support))
          (walk_last _ _ _ _ _ none c.loop-longer.invariant.walk i (feasible.gaps_are.from i h)))
          (grind (arith, common_steps));
      count = search rules;
    }
