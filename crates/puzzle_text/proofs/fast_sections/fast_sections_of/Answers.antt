-- `fast_sections_of`: the invariant holds after a blank line, a comment, and a keyword line with the clue lines below it.
use Rattle.puzzle_text.proofs.Names.{◌≡◌, ◌+◌, arith, length, rules, sym, ◌∙◌, clues_of_kind}
use Rattle.puzzle_text.proofs.SectionsLemmas.{none_is}
use Rattle.puzzle_text.proofs.FastLines.{above_all, only_keyword_line, past_blank, past_section}
use Rattle.puzzle_text.proofs.fast_sections.fast_sections_of.Goals as goal

pub lines-init : goal.lines-init
lines-init c = search (rules, above_all)

pub lines-preserved-then-not-is_empty : goal.lines-preserved-then-not-is_empty
lines-preserved-then-not-is_empty c =
    let after = c.next_line.result.1.now in
    let rest = c.in_ok-count.after.now in
    let kind = c.section_of_keyword.result in
    let rows = c.add.new.self.rows.items in
    let columns = c.add.new.self.columns.items in
    let first = c.next_line.ensures.first (c.lines.number + 1) in
    let place : c.lines.number + 1 + c.in_ok-count.count + 1 ≡ c.lines.number + 1 + 1 + length (clues_of_kind kind rows columns) =
    omega (arith, c.in_ok-count.ensures.count) in
    let some = none_is c.keyword-word.result.now _ _ c.keyword-word.ensures (sym c.is_empty-in-lines.ensures ∙ c.if-not-is_empty.true) in
    let above =
    past_section kind _ _ _ after rest rows columns c.in_ok-count.ensures.clues place _ _ _ _ c.in_ok-count.ensures.others
    (rw first at c.lines.invariant.walk.1) some (rw c.keyword-word.ensures at c.section_of_keyword.ensures) in
    record {
      within = omega (arith, c.in_ok-count.ensures.within, c.next_line.ensures.shorter, c.lines.invariant.within);
      keywords =
          rw c.in_ok-count.ensures.line
          (only_keyword_line _ _ _ _ after rest rows columns c.in_ok-count.ensures.clues place _ _ (rw first at c.lines.invariant.keywords) some);
      walk = (kind, above);
    }

pub lines-preserved : goal.lines-preserved
lines-preserved c =
    let first = c.next_line.ensures.first (c.lines.number + 1) in
    let above = rw first at c.lines.invariant.walk.1 in
    let none = none_is c.keyword-word.result.now _ _ c.keyword-word.ensures (sym c.is_empty-in-lines.ensures ∙ c.if-not-is_empty.false) in
    record {
      within = omega (arith, c.next_line.ensures.shorter, c.lines.invariant.within);
      keywords = rw none at (rw first at c.lines.invariant.keywords);
      walk = (
        c.lines.invariant.walk.0,
        elim c.else-not-is_empty-2.branch [
          | goal.else-not-is_empty-2-via-then-not-is_empty-2+else-not-is_hash w ↦
              let hash = sym w.is_hash.ensures ∙ w.if-not-is_hash.false in search (rules, above, none, hash)
          | goal.else-not-is_empty-2-via-else-not-is_empty-2 w ↦
              past_blank _ _ _ _ _ _ above none (sym c.is_empty-else-not-is_empty.ensures ∙ w.if-not-is_empty-2.false)
        ],
      );
    }
