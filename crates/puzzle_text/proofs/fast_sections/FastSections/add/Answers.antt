-- `add`: the clues read are those of the section that the keyword begins.
use Rattle.puzzle_text.proofs.fast_sections.FastSections.add.Goals as goal

pub returns-in-Rows-clause-clues : goal.returns-in-Rows-clause-clues
returns-in-Rows-clause-clues c = rw c.in-Rows.is c.read_section.ensures.clues

pub returns-in-Columns-clause-clues : goal.returns-in-Columns-clause-clues
returns-in-Columns-clause-clues c = rw c.in-Columns.is c.read_section-in-Columns.ensures.clues
