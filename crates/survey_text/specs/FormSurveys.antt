-- The survey of a collection, and of a list of entries, in a form.
use Rattle.std.specs.Prelude.{ℕ, List, map, length, nat_lt, if◌then◌else◌, Result, Ok, Err}
use Rattle.grid_core.specs.Nonogram.{Nonogram}
use Rattle.grid_core.specs.declared.limits.TheConstants.{MAX_SIDE}
use Rattle.solve_core.specs.Report.{findings_of}
use Rattle.puzzle_text.specs.Collections.{Entry, cut}
use Rattle.puzzle_text.specs.Formats.{read_entry}
use Rattle.puzzle_text.specs.declared.faults.CollectionFault.{CollectionFault}
use Rattle.puzzle_text.specs.declared.faults.CollectionFault.TheVariants.{TooMany}
use Rattle.puzzle_text.specs.declared.faults.EntryFault.{EntryFault}
use Rattle.puzzle_text.specs.declared.limits.TheConstants.{MAX_ENTRIES}
use Rattle.survey_text.specs.Forms.{Form, FormEntry, ReportedPuzzle, text_in}
use Rattle.survey_text.specs.Survey.{GuessSettings}

-- the puzzle with the report on it, or the fault
abbrev pub report_in : GuessSettings → Result Nonogram EntryFault → Result ReportedPuzzle EntryFault
report_in guesses (Ok p) =
    Ok (record {
      puzzle = p;
      guesses = guesses;
      findings = findings_of guesses.pick p guesses.limit;
    })
report_in guesses (Err fault) = Err fault

-- `entry` with its puzzle and the report on that, or with its fault
abbrev pub surveyed : GuessSettings → Entry → FormEntry
surveyed guesses entry = record {
  name = entry.name;
  body = entry.body;
  result = report_in guesses (read_entry MAX_SIDE entry);
}

-- the text of the survey of `entries` in a form
abbrev pub survey_of_list_in : Form → GuessSettings → List Entry → List ℕ
survey_of_list_in form guesses entries = text_in form (map (surveyed guesses) entries)

-- the text of the survey of the entries in a form, or the fault
abbrev pub survey_or_fault_in :
    Form → GuessSettings → Result (List Entry) CollectionFault → Result (List ℕ) CollectionFault
survey_or_fault_in form guesses (Ok entries) = Ok (survey_of_list_in form guesses entries)
survey_or_fault_in form guesses (Err fault) = Err fault

-- the text of the survey of the collection `bytes` in a form, or its first fault
abbrev pub survey_in : Form → GuessSettings → List ℕ → Result (List ℕ) CollectionFault
survey_in form guesses bytes = survey_or_fault_in form guesses (cut bytes)

-- the text of the survey of `entries` in a form, or `TooMany` if they are more than `MAX_ENTRIES`
abbrev pub survey_of_entries_in :
    Form → GuessSettings → List Entry → Result (List ℕ) CollectionFault
survey_of_entries_in form guesses entries =
    if nat_lt MAX_ENTRIES (length entries) then Err TooMany
    else Ok (survey_of_list_in form guesses entries)
