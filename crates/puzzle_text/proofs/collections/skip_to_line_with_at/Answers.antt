-- `skip_to_line_with_at`: after the bytes before the first `@`, there is nothing, or a line, or the end of a line and then others.
use Rattle.puzzle_text.proofs.Names.{rules, sym}
use Rattle.puzzle_text.proofs.CollectionLemmas.{follows_amid, follows_line, follows_none}
use Rattle.puzzle_text.proofs.collections.skip_to_line_with_at.Goals as goal

pub returns-then-is_empty : goal.returns-then-is_empty
returns-then-is_empty c =
    follows_none _ _ _ c.split_at.ensures.by_index.0 (rw (← c.split_at.ensures.front) at c.position_of_at.ensures.other) (search rules)

pub returns-then-ends_line : goal.returns-then-ends_line
returns-then-ends_line c =
    follows_line _ _ _ c.split_at.ensures.by_index.0 (rw (← c.split_at.ensures.front) at c.position_of_at.ensures.other)
    (sym c.if-ends_line.ensures)

pub returns : goal.returns
returns c =
    follows_amid _ _ _ _ _ c.split_at.ensures.by_index.0 (rw (← c.split_at.ensures.front) at c.position_of_at.ensures.other)
    (sym c.if-ends_line.ensures) c.split_line.ensures.whole c.split_line.ensures.first
