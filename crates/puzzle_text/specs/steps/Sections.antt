-- The first lines of a section as its clue lines.
use Rattle.std.specs.Prelude.{ℕ, ◌&&◌, List, length, take, drop, Option, Some, None, nat_le, if◌then◌else◌}
use Rattle.std.specs.List.{list_all}
use Rattle.puzzle_text.specs.Lines.{TextLine, is_blank_line}

-- the first `count` lines of a section, if it has as many and all lines after them are blank
abbrev pub leading_lines : ℕ → List TextLine → Option (List TextLine)
leading_lines count section =
    if nat_le count (length section) && list_all is_blank_line (drop count section)
    then Some (take count section) else None
