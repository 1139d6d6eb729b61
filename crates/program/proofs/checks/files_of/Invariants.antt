-- The invariant of the loop of `files_of`: the files so far, followed by those left, are all.
use Rattle.std.proofs.Common.{◌≡◌, ◌++◌, length, map, string_bytes}
use Rattle.check_core.specs.Files.{shown_file}
use Rattle.program.specs.Checking.{named_files, shown_bytes}
use Rattle.program.proofs.checks.files_of.Given as goal

abbrev pub invariant-loop-paths : goal.invariant-loop-paths
invariant-loop-paths l =
    map shown_file l.files.items ++ named_files (map string_bytes l.paths) (map shown_bytes l.bodies)
    ≡ named_files (map string_bytes l.fn.paths) (map shown_bytes l.fn.bodies)

abbrev pub decreases-loop-paths : goal.decreases-loop-paths
decreases-loop-paths l = length l.paths
