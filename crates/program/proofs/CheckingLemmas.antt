-- What a check of files that fails appends to the output, from what its parts return.
use Rattle.std.proofs.Common.{◌≡◌, ℕ, List, Option, Result, Err, length, map, string_bytes}
use Rattle.survey_core.specs.GuessSettings.{guess_settings}
use Rattle.survey_core.specs.Leaving.{LeavesAt}
use Rattle.survey_core.specs.declared.faults.RunFault.{RunFault}
use Rattle.check_text.specs.declared.unread.Unread.{Unread}
use Rattle.check_core.specs.Checks.{check_of_files}
use Rattle.check_core.specs.Files.{NamedFile}
use Rattle.command_line.specs.declared.checks.CheckRequest.{CheckRequest}
use Rattle.program.specs.Checking.{ChecksFiles, named_files, options_of}
use Rattle.program.specs.declared.stop.Stop.TheVariants.{Run}

-- if the files are those that the check names, with these bodies, a check that fails leaves as much as the program does
pub files_unchecked : (check : CheckRequest) (bodies : List (Result (List ℕ) Unread)) (files : List NamedFile) (fault : RunFault)
    (old new : Option (List ℕ)) → length bodies ≡ length check.files.items
    → files ≡ named_files (map string_bytes check.files.items) bodies
    → LeavesAt (check_of_files (options_of check) (guess_settings check.settings) files) fault old new
    → ChecksFiles check (Err (Run fault)) old new
files_unchecked check bodies files fault old new same is left = (bodies, same, (rw is at left, tt))
