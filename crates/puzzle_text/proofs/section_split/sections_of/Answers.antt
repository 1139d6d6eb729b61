-- `sections_of`: each of the three kinds of lines keeps the invariant: keyword lines, comments and content lines.
use Rattle.puzzle_text.proofs.Names.{rules}
use Rattle.puzzle_text.proofs.SectionsLemmas.{next_comment, next_content, next_keyword}
use Rattle.puzzle_text.proofs.section_split.sections_of.Goals as goal

pub loop-line-preserved : goal.loop-line-preserved
loop-line-preserved c =
    let next = next_keyword _ _ _ _ _ _ _ c.loop-line-test.true c.loop-line.invariant c.keyword-word.ensures in
    let comment = next_comment _ _ _ _ _ _ _ c.loop-line-test.true c.loop-line.invariant c.keyword-word.ensures in
    let content = next_content _ _ _ _ _ _ _ c.loop-line-test.true c.loop-line.invariant c.keyword-word.ensures in
    elim c.if-not-is_empty.branch [
      | goal.then-not-is_empty w ↦ search (rules, next)
      | goal.else-not-is_empty+then-not-is_hash+in_ok-put w ↦ search (rules, content)
      | goal.else-not-is_empty+else-not-is_hash w ↦ search (rules, comment)
    ]
