-- How many clue lines, or characters of a goal, a refused text has and should have.
use Rattle.std.specs.Prelude.{ℕ, ◌+◌, ◌*◌, List, length, filter, codes, Option, None, is_some, option_and_then, if◌then◌else◌}
use Rattle.std.specs.Option.{option_map}
use Rattle.std.specs.Result.{result_ok}
use Rattle.puzzle_text.specs.declared.counts.Count.{Count}
use Rattle.puzzle_text.specs.declared.counts.TextCounts.{TextCounts}
use Rattle.puzzle_text.specs.declared.counts.TextCounts.TheVariants.{Sections, Together, Goal}
use Rattle.puzzle_text.specs.declared.faults.TextFault.{TextFault}
use Rattle.puzzle_text.specs.declared.faults.TextFault.TheVariants.{BadCount, BadGoal}
use Rattle.puzzle_text.specs.declared.formats.Format.{Format}
use Rattle.puzzle_text.specs.declared.formats.Format.TheVariants.{Non, Mk, Nin}
use Rattle.puzzle_text.specs.Keywords.{first_with, is_keyword_line, quoted_text}
use Rattle.puzzle_text.specs.Lines.{TextLine, is_non_blank}
use Rattle.puzzle_text.specs.Mk.{at_hash, before_hash}
use Rattle.puzzle_text.specs.Non.{placed, sections_of, sizes_of}
use Rattle.puzzle_text.specs.Sections.{section_lines}
use Rattle.puzzle_text.specs.Sizes.{size_line}

-- how many clue lines a section has that should have `wanted`: as many if they are found, and
-- otherwise the number of its non-blank lines
abbrev pub clue_line_count : ℕ → List TextLine → ℕ
clue_line_count wanted section =
    if is_some (section_lines wanted section) then wanted else length (filter is_non_blank section)

-- how many clue lines a section has, and that it should have `wanted`
abbrev pub section_count : ℕ → List TextLine → Count
section_count wanted section =
    record { found = clue_line_count wanted section; wanted = wanted }

-- the clue lines of both sections of a `.non` text, if its sizes can be read
abbrev pub non_count : ℕ → List TextLine → Option TextCounts
non_count limit lines =
    option_map
    (λ sizes.
    Sections (section_count sizes.1 (sections_of (placed lines)).rows)
    (section_count sizes.0 (sections_of (placed lines)).columns))
    (result_ok (sizes_of limit (filter is_keyword_line lines)))

-- the characters of the first goal of a `.non` text, if there is one and the sizes can be read
abbrev pub goal_count : ℕ → List TextLine → Option TextCounts
goal_count limit lines =
    option_and_then
    (λ sizes.
    option_map
    (λ goal.
    Goal (record { found = length (quoted_text goal); wanted = sizes.0 * sizes.1 }))
    (first_with (codes "goal") (filter is_keyword_line lines)))
    (result_ok (sizes_of limit (filter is_keyword_line lines)))

-- the clue lines of both sections of an `.mk` text, if it has two sizes and two sections; the first
-- size is taken as the height
abbrev pub mk_count : ℕ → List TextLine → Option TextCounts
mk_count limit lines =
    option_and_then
    (λ size.
    option_map
    (λ parts.
    Sections (section_count size.0.0 parts.0) (section_count size.0.1 (before_hash parts.1)))
    (at_hash size.1))
    (result_ok (size_line limit lines))

-- the clue lines of the single section of a `.nin` text, if it has two sizes
abbrev pub nin_count : ℕ → List TextLine → Option TextCounts
nin_count limit lines =
    option_map (λ size. Together (section_count (size.0.0 + size.0.1) size.1))
    (result_ok (size_line limit lines))

-- what a fault says there is a wrong number of, if it does
abbrev pub counts_of : ℕ → Format → TextFault → List TextLine → Option TextCounts
counts_of limit Non BadCount lines = non_count limit lines
counts_of limit Non (BadGoal number) lines = goal_count limit lines
counts_of limit Mk BadCount lines = mk_count limit lines
counts_of limit Nin BadCount lines = nin_count limit lines
counts_of limit format fault lines = None
