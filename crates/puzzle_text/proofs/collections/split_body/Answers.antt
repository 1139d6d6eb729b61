-- `split_body`: one more line that begins no entry is part of the body.
use Rattle.puzzle_text.proofs.Names.{sym}
use Rattle.puzzle_text.proofs.CollectionLemmas.{follow_on, past_line}
use Rattle.puzzle_text.proofs.collections.split_body.Goals as goal

pub lines-preserved : goal.lines-preserved
lines-preserved c =
    let line = past_line _ _ _ c.split_line.ensures.whole c.split_line.ensures.first (sym c.if-is_marker.ensures) in
    follow_on _ _ _ c.lines.invariant (follow_on _ _ _ line c.skip_to_line_with_at-rest-in-lines.ensures)
