-- `inert_cells`: a cell is inert if with its colour each other unknown cell can have both colours.
use Rattle.line_core.proofs.Names.{true≢false, sym, inl, inr}
use Rattle.line_core.proofs.LookaheadLemmas.{nothing_else, lookahead_at}
use Rattle.line_core.proofs.lookahead_tables.inert_cells.Goals as goal

pub loop-unknown-preserved : goal.loop-unknown-preserved
loop-unknown-preserved g c =
    let line = c.args.line.now in
    let filled = c.args.filled in
    let at = c.first_index-index.result in
    let before = c.loop-unknown.invariant in
    let here = before.left at c.first_index-index.ensures.in_mask in
    record {
      left = λ i h. elim (c.with_bit-left.ensures.to i h) [ inl old ↦ before.left i old.0 | inr own ↦ absurd (true≢false (sym own.1)) ];
      found = λ clue tell. record {
        nothing_else = λ x lx ux h. elim (c.with_bit-inert.ensures.to x h) [
          | inl old ↦ (before.found clue tell).nothing_else x lx ux old.0
          | inr own ↦
              let undecided = c.leaves_undecided-is_inert.ensures own.1 in
              let given =
              lookahead_at line clue filled c.args.lookaheads.now at _ c.index-lookaheads-from.result c.support_if-support.result.now tell
              here.0 here.1 c.from.ensures (sym c.index-lookaheads-from.is) c.requires c.support_if-support.ensures in
              rw own.0 (nothing_else line clue at _ _ filled given undecided.alive
              (λ i li ne ui.
              undecided.both i (c.with_bit.ensures.from i (inl (c.unknown_cells-unknown.ensures.cells.from i (li, ui), ne)))))
        ];
      };
    }
