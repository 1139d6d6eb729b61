-- The loop of `fast_sections_of`: the keyword lines and clues so far, followed by those of the lines to come, are those of the text.
use Rattle.puzzle_text.proofs.Names.{◌≡◌, ◌+◌, ◌++◌, ◌≤◌, filter, length, map, SectionKind, is_keyword_line, lines, numbered_from, raw_lines, shown_keyword}
use Rattle.puzzle_text.proofs.FastLines.{IsAbove}
use Rattle.puzzle_text.proofs.fast_sections.fast_sections_of.Given as goal

abbrev pub invariant-lines : goal.invariant-lines
invariant-lines l = record {
  within : l.number + length l.below ≤ length l.text;
  keywords : map shown_keyword l.sections.keyword_lines.items ++ filter is_keyword_line (numbered_from (l.number + 1) (raw_lines l.below))
      ≡ filter is_keyword_line (lines l.text);
  walk : (kind : SectionKind)
      × IsAbove kind (lines l.text) (numbered_from (l.number + 1) (raw_lines l.below)) l.sections.rows.items l.sections.columns.items;
}

abbrev pub decreases-lines : goal.decreases-lines
decreases-lines l = length l.below
