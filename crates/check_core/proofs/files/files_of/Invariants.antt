-- The invariant of the loop of `files_of`: the files are those of the entries passed.
use Rattle.std.proofs.Common.{◌≡◌, map, take}
use Rattle.puzzle_text.specs.Shown.{shown_entry}
use Rattle.check_core.specs.Files.{file_of_entry, shown_file}
use Rattle.check_core.proofs.files.files_of.Given as goal

abbrev pub invariant-loop-entry : goal.invariant-loop-entry
invariant-loop-entry l =
    map shown_file l.files.items ≡ map file_of_entry (map shown_entry (take l.entry-index l.entries))
