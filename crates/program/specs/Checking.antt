-- What `check` prints, and its exit status.
use Rattle.std.specs.Prelude.{◌≡◌, ℕ, ◌⊎◌, Bool, true, false, List, [], ◌∷◌, length, map, string_bytes, Option, Some, None, IfOk, IfSome, OnErr, OnOk, Result, Ok, Err, Vec}
use Rattle.std.specs.Io.KnownBytes.{IsAtEnd, Keeps}
use Rattle.std.specs.declared.alloc.Global.{Global}
use Rattle.std.specs.declared.io.ErrorKind.{ErrorKind}
use Rattle.std.specs.declared.io.ErrorKind.TheVariants.{NotFound, PermissionDenied, IsADirectory, OutOfMemory}
use Rattle.grid_core.specs.declared.memory.NoMemory.{NoMemory}
use Rattle.survey_core.specs.GuessSettings.{guess_settings}
use Rattle.check_text.specs.declared.heads.Level.{Level}
use Rattle.check_text.specs.declared.heads.Level.TheVariants.{Warning, Error}
use Rattle.check_text.specs.declared.puzzle_findings.CheckOptions.{CheckOptions}
use Rattle.check_text.specs.declared.unread.Unread.{Unread}
use Rattle.check_text.specs.declared.unread.Unread.TheVariants.{Missing, Denied, Folder, Failed}
use Rattle.check_core.specs.Checks.{check_of, check_of_files, worst_level, worst_of_collection}
use Rattle.check_core.specs.Files.{NamedFile}
use Rattle.command_line.specs.declared.checks.CheckRequest.{CheckRequest}
use Rattle.program.specs.Printing.{IsUntouched, IsUnwritten, PrintsSurvey, Stream}
use Rattle.program.specs.declared.stop.Stop.{Stop}
use Rattle.program.specs.declared.stop.Stop.TheVariants.{NoMemory as memory_stop}

-- why a file can't be read, by the kind of the error of opening or reading it; `NoMemory` if the
-- error is that an allocation failed
abbrev pub cause_of : ErrorKind → Result Unread NoMemory
cause_of NotFound = Ok Missing
cause_of PermissionDenied = Ok Denied
cause_of IsADirectory = Ok Folder
cause_of OutOfMemory = Err (record {})
cause_of _ = Ok Failed

-- the bytes that were read, if any were
abbrev pub shown_bytes : Result (Vec ℕ Global) Unread → Result (List ℕ) Unread
shown_bytes (Ok body) = Ok body.items
shown_bytes (Err unread) = Err unread

-- the files with these names and these bodies, in this order
abbrev pub named_files : List (List ℕ) → List (Result (List ℕ) Unread) → List NamedFile
named_files [] bodies = []
named_files (name ∷ names) [] = []
named_files (name ∷ names) (body ∷ bodies) =
    record { name = name; body = body } ∷ named_files names bodies

-- what a check looks for
abbrev pub options_of : CheckRequest → CheckOptions
options_of check = record { grade = check.grade; all = check.all }

-- what checking these files appends to the output, by its result, which is the level of the worst
-- finding or a stop
abbrev pub ChecksAll : CheckRequest → List NamedFile → Result (Option Level) Stop →
    Option (List ℕ) → Option (List ℕ) → Type 0
ChecksAll check files result old new =
    PrintsSurvey (check_of_files (options_of check) (guess_settings check.settings) files)
    result old new
    × IfOk result (λ worst.
    worst ≡ worst_level (options_of check) (guess_settings check.settings) files)

-- what checking the files that `check` names appends to the output: what is found of some bodies,
-- one for each file; nothing if an allocation fails
abbrev pub ChecksFiles : CheckRequest → Result (Option Level) Stop →
    Option (List ℕ) → Option (List ℕ) → Type 0
ChecksFiles check (Err memory_stop) old new = Keeps old new
ChecksFiles check result old new =
    (bodies : List (Result (List ℕ) Unread)) × (length bodies ≡ length check.files.items) ×
    ChecksAll check (named_files (map string_bytes check.files.items) bodies) result old new

-- what checking standard input appends to the output, if its bytes are known; nothing, whether they
-- are known or not, if it stops but for a failed output; if the check was printed, the input was
-- read to its end
abbrev pub ChecksInput : CheckRequest → Stream → Result (Option Level) Stop →
    Option (List ℕ) → Option (List ℕ) → Type 0
ChecksInput check input (Err memory_stop) old new = Keeps old new
ChecksInput check input result old new =
    IfSome input.old (λ bytes.
    PrintsSurvey (check_of (options_of check) (guess_settings check.settings) bytes)
    result old new
    × IfOk result (λ worst.
    worst ≡ worst_of_collection (options_of check) (guess_settings check.settings) bytes)) ×
    OnErr result (IsUnwritten result ⊎ Keeps old new) ×
    OnOk result (IsAtEnd input.new)

-- what a check appends to the output: that of the files it names, without touching standard input,
-- or that of standard input if it names none
abbrev pub ChecksNamed : List (List ℕ) → CheckRequest → Stream → Result (Option Level) Stop →
    Option (List ℕ) → Option (List ℕ) → Type 0
ChecksNamed [] check input result old new = ChecksInput check input result old new
ChecksNamed (name ∷ names) check input result old new =
    IsUntouched input × ChecksFiles check result old new

-- what a check appends to the output
abbrev pub Checks : CheckRequest → Stream → Result (Option Level) Stop →
    Option (List ℕ) → Option (List ℕ) → Type 0
Checks check input result old new =
    ChecksNamed (map string_bytes check.files.items) check input result old new

-- the exit status of a check whose worst finding has this level
abbrev pub check_status : Bool → Option Level → ℕ
check_status strict None = 0
check_status true (Some Warning) = 1
check_status false (Some Warning) = 0
check_status strict (Some Error) = 1
