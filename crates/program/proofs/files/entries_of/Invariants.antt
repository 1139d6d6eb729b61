-- The invariant of the loop of `entries_of`: the entries are those of the files passed.
use Rattle.std.proofs.Common.{◌≡◌, map, take, string_bytes}
use Rattle.puzzle_text.specs.Shown.{shown_entry}
use Rattle.program.specs.Printing.{named_texts}
use Rattle.program.proofs.files.entries_of.Given as goal

abbrev pub invariant-loop-place : goal.invariant-loop-place
invariant-loop-place l =
    map shown_entry l.entries.items ≡ named_texts (take l.place (map string_bytes l.paths))
    (take l.place (map (λ body. body.items) l.bodies))
