-- The loop of `keyword_lines`: the keyword lines so far, followed by those to come, are all keyword lines.
use Rattle.puzzle_text.proofs.Names.{◌≡◌, ◌++◌, drop, filter, map, is_keyword_line, shown_keyword, shown_line}
use Rattle.puzzle_text.proofs.keywords.keyword_lines.Given as goal

abbrev pub invariant-loop-line : goal.invariant-loop-line
invariant-loop-line l =
    map shown_keyword l.found.items ++ filter is_keyword_line (map shown_line (drop l.line-index l.lines))
    ≡ filter is_keyword_line (map shown_line l.lines)
