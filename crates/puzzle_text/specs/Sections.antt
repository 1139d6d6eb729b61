-- Which lines of a section are its clue lines.
use Rattle.std.specs.Prelude.{ℕ, ◌&&◌, List, length, take, drop, filter, Option, Some, None, nat_le, ◌==◌, if◌then◌else◌}
use Rattle.std.specs.List.{list_all}
use Rattle.puzzle_text.specs.Lines.{TextLine, is_blank_line, is_non_blank}

-- the `count` clue lines of a section: its non-blank lines, if there are `count` of them; otherwise
-- its first `count` lines, if all lines after them are blank
abbrev pub section_lines : ℕ → List TextLine → Option (List TextLine)
section_lines count section =
    let non_blank = filter is_non_blank section in
    if length non_blank == count then Some non_blank
    else (if nat_le count (length section) && list_all is_blank_line (drop count section)
    then Some (take count section) else None)
