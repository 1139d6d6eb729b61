-- Lines and sections as the readers have them, and as the definitions have them.
use Rattle.std.specs.Prelude.{List, map}
use Rattle.puzzle_text.specs.declared.lines.TextLine.{TextLine as KeptLine}
use Rattle.puzzle_text.specs.declared.keyword_line.KeywordLine.{KeywordLine}
use Rattle.puzzle_text.specs.declared.section_split.Sections.{Sections as KeptSections}
use Rattle.puzzle_text.specs.declared.sections.SectionLines.{SectionLines}
use Rattle.puzzle_text.specs.declared.sections.SectionLines.TheVariants.{Slice, NonBlank}
use Rattle.puzzle_text.specs.Lines.{TextLine}
use Rattle.puzzle_text.specs.Non.{Sections}

-- the number and the text of a line
abbrev pub shown_line : KeptLine → TextLine
shown_line line = record { number = line.number; text = line.text.now }

-- a keyword line as a line
abbrev pub shown_keyword : KeywordLine → TextLine
shown_keyword found = shown_line found.line

-- the lines of both sections, and the number of the first stray line
abbrev pub shown_sections : KeptSections → Sections
shown_sections sections = record {
  rows = map shown_line sections.rows.items;
  columns = map shown_line sections.columns.items;
  stray = sections.stray;
}

-- the clue lines of a section
abbrev pub shown_section_lines : SectionLines → List TextLine
shown_section_lines (Slice lines) = map shown_line lines.now
shown_section_lines (NonBlank lines) = map shown_line lines.items
