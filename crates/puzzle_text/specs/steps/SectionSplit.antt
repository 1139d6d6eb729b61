-- Which section a line belongs to, by the keyword above it.
use Rattle.std.specs.Prelude.{◌≡◌, ℕ, ◌++◌, [], ◌∷◌, List, codes, false, Some, None, if◌then◌else◌}
use Rattle.std.specs.Str.{bytes_eq}
use Rattle.puzzle_text.specs.declared.section_split.SectionKind.{SectionKind}
use Rattle.puzzle_text.specs.declared.section_split.SectionKind.TheVariants.{Rows, Columns, Other}
use Rattle.puzzle_text.specs.Lines.{TextLine, is_non_blank}
use Rattle.puzzle_text.specs.Mk.{or_else}
use Rattle.puzzle_text.specs.Non.{Sections}

-- `word` is the keyword of this section, or for `Other` of neither section
abbrev pub IsSectionOfKeyword : List ℕ → SectionKind → Type 0
IsSectionOfKeyword word Rows = word ≡ codes "rows"
IsSectionOfKeyword word Columns = word ≡ codes "columns"
IsSectionOfKeyword word Other =
    (bytes_eq word (codes "rows") ≡ false) × (bytes_eq word (codes "columns") ≡ false)

-- `sections` with `line` appended to its section, or recorded as stray if it belongs to none
abbrev pub with_line : Sections → SectionKind → TextLine → Sections
with_line sections Rows line = record sections { rows = sections.rows ++ line ∷ [] }
with_line sections Columns line = record sections { columns = sections.columns ++ line ∷ [] }
with_line sections Other line =
    record sections {
      stray = or_else sections.stray (if is_non_blank line then Some line.number else None);
    }
