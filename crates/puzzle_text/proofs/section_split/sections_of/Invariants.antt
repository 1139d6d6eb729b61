-- The loop of `sections_of`: the sections so far, followed by those of the lines to come, are those of all lines.
use Rattle.puzzle_text.proofs.Names.{◌≡◌, drop, map, placed, sections_of, shown_line, shown_sections}
use Rattle.puzzle_text.proofs.SectionsLemmas.{below, join}
use Rattle.puzzle_text.proofs.section_split.sections_of.Given as goal

abbrev pub invariant-loop-line : goal.invariant-loop-line
invariant-loop-line l =
    join (shown_sections l.sections) (below l.kind (map shown_line (drop l.line-index l.lines)))
    ≡ sections_of (placed (map shown_line l.lines))
