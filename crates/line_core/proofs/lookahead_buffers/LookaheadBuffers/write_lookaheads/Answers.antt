-- `LookaheadBuffers::write_lookaheads`: the lookaheads determine what is deduced of the line with one more known cell.
use Rattle.line_core.proofs.Names.{AreEndSupports, arith, length, rules, ◌∙◌, ◌≡◌, ap, sym, reverse, length-reverse, lengths_mirrored, recursion_from_All}
use Rattle.line_core.specs.steps.PrefixSupports.{HasRowsFor}
use Rattle.std.proofs.lemmas.List.{with_items_is}
use Rattle.line_core.proofs.LookaheadLemmas.{lookaheads_are}
use Rattle.line_core.proofs.lookahead_buffers.LookaheadBuffers.write_lookaheads.Goals as goal

pub write_mirrored_feasible-requires : goal.write_mirrored_feasible-requires
write_mirrored_feasible-requires g c = λ κs within.
    let same : c.reverse.new.self ≡ reverse c.args.clue.now = c.reverse.ensures.after ∙ ap reverse c.copy_from_slice.ensures.after in
    let lengths = rw (sym same) at (lengths_mirrored _ c.args.clue.now c.requires.1.1.1.1.0) in search (rules, same, length-reverse)

pub write_prefix_supports-requires : goal.write_prefix_supports-requires
write_prefix_supports-requires g c = λ κs within.
    let same : c.reverse.new.self ≡ reverse c.args.clue.now = c.reverse.ensures.after ∙ ap reverse c.copy_from_slice.ensures.after in
    let lengths = rw (sym same) at (lengths_mirrored _ c.args.clue.now c.requires.1.1.1.1.0) in
    let long : length c.reverse.new.self ≡ length c.args.clue.now = ap length same ∙ length-reverse c.args.clue.now in
    let len : c.of-domain.result.len ≡ length (reverse g.cells) =
    c.of-domain.ensures.len_is ∙ ap length c.requires.1.1.1.0 ∙ sym (length-reverse g.cells) in
    let table : HasRowsFor (reverse g.cells) c.reverse.new.self c.deref_mut.result.now = record {
      short = omega (arith, length-reverse g.cells);
      rows = omega (arith, long, c.deref_mut.ensures.len, c.make_rows-2.ensures.rows);
    } in
    search rules

pub combine_supports-requires : goal.combine_supports-requires
combine_supports-requires g c = λ κs within.
    let same : c.reverse.new.self ≡ reverse c.args.clue.now = c.reverse.ensures.after ∙ ap reverse c.copy_from_slice.ensures.after in
    let first = c.write_prefix_supports.ensures in
    let second = c.write_prefix_supports-2.ensures in
    let before : c.deref.result.now ≡ c.write_prefix_supports-2.new.table =
    c.deref.ensures.value
    ∙ with_items_is c.make_rows.new.table c.write_prefix_supports-2.new.table (second.count ∙ c.deref_mut-2.ensures.len) in
    let after : c.deref-2.result.now ≡ c.write_prefix_supports.new.table =
    c.deref-2.ensures.value
    ∙ with_items_is c.make_rows-2.new.table c.write_prefix_supports.new.table (first.count ∙ c.deref_mut.ensures.len) in
    let supports : AreEndSupports g.W.BitSet.WIDTH g.cells c.args.clue.now c.of-domain.result.len c.deref.result.now
    c.deref-2.result.now = record {
      len_is = c.of-domain.ensures.len_is ∙ ap length c.requires.1.1.1.0;
      within = omega (arith, c.of-domain.ensures.len_is, c.of-domain.ensures.short);
      short = omega (arith, c.of-domain.ensures.len_is, ap length c.requires.1.1.1.0, c.requires.1.1.1.1.1.1.short);
      lengths = c.requires.1.1.1.1.0;
      before_is = rw before second.supports;
      after_is = rw (after, sym same) first.supports;
      before_fits = omega (arith, ap length before, second.count, c.deref_mut-2.ensures.len, c.make_rows.ensures.rows);
      after_fits = omega (arith, ap length after, first.count, c.deref_mut.ensures.len, c.make_rows-2.ensures.rows);
    } in
    (within.0, (within.1, (c.requires.1.1.0, (c.write_feasible.ensures, (supports, c.requires.1.1.1.1.1.1.entries)))))

pub returns-clause-lookaheads : goal.returns-clause-lookaheads
returns-clause-lookaheads g c = record {
  are = lookaheads_are g.cells c.args.clue.now _ (recursion_from_All _ _ c.requires.1.1.1.1.0.positive)
      (rw c.requires.1.1.1.0 at c.of-domain.ensures.some) c.combine_supports.ensures.lookaheads;
  count = c.combine_supports.ensures.count;
}
