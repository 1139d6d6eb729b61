-- What a check prints of files and of a collection, and its worst finding.
use Rattle.std.specs.Prelude.{ℕ, List, ◌++◌, map, length, nat_lt, if◌then◌else◌, Option, Some, None, Result, Ok, Err}
use Rattle.std.specs.List.{flat_map}
use Rattle.grid_core.specs.Nonogram.{Nonogram}
use Rattle.grid_core.specs.declared.limits.TheConstants.{MAX_SIDE}
use Rattle.solve_core.specs.Report.{findings_of}
use Rattle.puzzle_text.specs.Collections.{Entry, cut}
use Rattle.puzzle_text.specs.Formats.{read_entry}
use Rattle.puzzle_text.specs.declared.faults.CollectionFault.{CollectionFault}
use Rattle.puzzle_text.specs.declared.faults.CollectionFault.TheVariants.{TooMany}
use Rattle.puzzle_text.specs.declared.faults.EntryFault.{EntryFault}
use Rattle.puzzle_text.specs.declared.limits.TheConstants.{MAX_ENTRIES}
use Rattle.survey_text.specs.Survey.{GuessSettings}
use Rattle.check_text.specs.PuzzleFindings.{puzzle_findings, puzzle_level}
use Rattle.check_text.specs.TextFindings.{refused_text}
use Rattle.check_text.specs.Totals.{totals_line, worst_of}
use Rattle.check_text.specs.Unread.{unread_finding}
use Rattle.check_text.specs.declared.heads.Level.{Level}
use Rattle.check_text.specs.declared.heads.Level.TheVariants.{Error}
use Rattle.check_text.specs.declared.puzzle_findings.CheckOptions.{CheckOptions}
use Rattle.check_text.specs.declared.totals.Subject.{Subject}
use Rattle.check_text.specs.declared.totals.Subject.TheVariants.{File, Entry as entry_subject}
use Rattle.check_text.specs.declared.unread.Unread.{Unread}
use Rattle.check_core.specs.Files.{NamedFile, file_of_entry}

-- the findings on the text `body` of `name`, given what reading it returned
abbrev pub findings_on :
    CheckOptions → GuessSettings → List ℕ → List ℕ → Result Nonogram EntryFault → List ℕ
findings_on options guesses name body (Ok p) =
    puzzle_findings options name p guesses.limit (findings_of guesses.pick p guesses.limit)
findings_on options guesses name body (Err fault) = refused_text name body fault

-- the level of the worst of them
abbrev pub level_of :
    CheckOptions → GuessSettings → Result Nonogram EntryFault → Option Level
level_of options guesses (Ok p) =
    puzzle_level options p (findings_of guesses.pick p guesses.limit)
level_of options guesses (Err fault) = Some Error

-- the findings on the text `body` of `name`
abbrev pub entry_findings : CheckOptions → GuessSettings → List ℕ → List ℕ → List ℕ
entry_findings options guesses name body =
    findings_on options guesses name body
    (read_entry MAX_SIDE (record { name = name; body = body }))

-- the level of the worst of them
abbrev pub entry_level : CheckOptions → GuessSettings → List ℕ → List ℕ → Option Level
entry_level options guesses name body =
    level_of options guesses (read_entry MAX_SIDE (record { name = name; body = body }))

-- the findings on a file with these bytes, or with this cause why they can't be read
abbrev pub findings_in :
    CheckOptions → GuessSettings → List ℕ → Result (List ℕ) Unread → List ℕ
findings_in options guesses name (Ok body) = entry_findings options guesses name body
findings_in options guesses name (Err unread) = unread_finding name unread

-- the level of the worst of them
abbrev pub level_in :
    CheckOptions → GuessSettings → List ℕ → Result (List ℕ) Unread → Option Level
level_in options guesses name (Ok body) = entry_level options guesses name body
level_in options guesses name (Err unread) = Some Error

-- the findings on a file
abbrev pub file_findings : CheckOptions → GuessSettings → NamedFile → List ℕ
file_findings options guesses file = findings_in options guesses file.name file.body

-- the level of the worst of them
abbrev pub file_level : CheckOptions → GuessSettings → NamedFile → Option Level
file_level options guesses file = level_in options guesses file.name file.body

-- what a check of these files prints: the findings on each, and the last line
abbrev pub checked_text : CheckOptions → GuessSettings → Subject → List NamedFile → List ℕ
checked_text options guesses subject files =
    flat_map (file_findings options guesses) files
    ++ totals_line subject (map (file_level options guesses) files)

-- the level of the worst finding on these files
abbrev pub worst_level : CheckOptions → GuessSettings → List NamedFile → Option Level
worst_level options guesses files = worst_of (map (file_level options guesses) files)

-- what a check of these files prints, or `TooMany` if they are more than `MAX_ENTRIES`
abbrev pub check_of_files :
    CheckOptions → GuessSettings → List NamedFile → Result (List ℕ) CollectionFault
check_of_files options guesses files =
    if nat_lt MAX_ENTRIES (length files) then Err TooMany
    else Ok (checked_text options guesses File files)

-- what a check of the entries prints, or the fault
abbrev pub check_or_fault :
    CheckOptions → GuessSettings → Result (List Entry) CollectionFault
    → Result (List ℕ) CollectionFault
check_or_fault options guesses (Ok entries) =
    Ok (checked_text options guesses entry_subject (map file_of_entry entries))
check_or_fault options guesses (Err fault) = Err fault

-- what a check of the collection `bytes` prints, or its first fault
abbrev pub check_of : CheckOptions → GuessSettings → List ℕ → Result (List ℕ) CollectionFault
check_of options guesses bytes = check_or_fault options guesses (cut bytes)

-- the level of the worst finding on the entries, if there are any
abbrev pub worst_or_fault :
    CheckOptions → GuessSettings → Result (List Entry) CollectionFault → Option Level
worst_or_fault options guesses (Ok entries) =
    worst_level options guesses (map file_of_entry entries)
worst_or_fault options guesses (Err fault) = None

-- the level of the worst finding on the collection `bytes`
abbrev pub worst_of_collection : CheckOptions → GuessSettings → List ℕ → Option Level
worst_of_collection options guesses bytes = worst_or_fault options guesses (cut bytes)
