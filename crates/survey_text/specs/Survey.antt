-- The text of the survey of a collection, and of a list of entries.
use Rattle.std.specs.Prelude.{ℕ, Bool, List, ◌++◌, map, length, nat_lt, if◌then◌else◌, Result, Ok, Err}
use Rattle.std.specs.List.{enumerate_from, flat_map}
use Rattle.grid_core.specs.Nonogram.{Nonogram}
use Rattle.grid_core.specs.declared.limits.TheConstants.{MAX_SIDE}
use Rattle.solve_core.specs.Report.{findings_of}
use Rattle.solve_core.specs.declared.findings.Findings.{Findings}
use Rattle.solve_core.specs.declared.picks.Pick.{Pick}
use Rattle.puzzle_text.specs.Collections.{Entry, cut}
use Rattle.puzzle_text.specs.Formats.{read_entry}
use Rattle.puzzle_text.specs.declared.faults.CollectionFault.{CollectionFault}
use Rattle.puzzle_text.specs.declared.faults.CollectionFault.TheVariants.{TooMany}
use Rattle.puzzle_text.specs.declared.faults.EntryFault.{EntryFault}
use Rattle.puzzle_text.specs.declared.limits.TheConstants.{MAX_ENTRIES}
use Rattle.survey_text.specs.Entries.{GradedEntry, entry_text}
use Rattle.survey_text.specs.Totals.{totals_line}

-- the texts of `entries`, numbered from 1
abbrev pub entries_text : Bool → List GradedEntry → List ℕ
entries_text show entries =
    flat_map (λ numbered. entry_text show numbered.0 numbered.1) (enumerate_from 1 entries)

-- the text of a survey: the texts of its entries, and the line of totals
abbrev pub survey_text : Bool → List GradedEntry → List ℕ
survey_text show entries = entries_text show entries ++ totals_line entries

-- how a search guesses: the greatest number of guesses for a puzzle, and the rule for the cell of
-- the next one
pub record GuessSettings : Type 0 where
  pub limit : ℕ
  pub pick : Pick

-- the puzzle with the findings of its report, or the fault
abbrev pub reported :
    GuessSettings → Result Nonogram EntryFault → Result (Nonogram × Findings) EntryFault
reported guesses (Ok p) = Ok (p, findings_of guesses.pick p guesses.limit)
reported guesses (Err fault) = Err fault

-- `entry` with its puzzle and the findings of the report on that, or with its fault
abbrev pub graded : GuessSettings → Entry → GradedEntry
graded guesses entry = record {
  name = entry.name;
  result = reported guesses (read_entry MAX_SIDE entry);
}

-- the text of the survey of `entries`
abbrev pub survey_of_list : GuessSettings → Bool → List Entry → List ℕ
survey_of_list guesses show entries = survey_text show (map (graded guesses) entries)

-- the text of the survey of the entries, or the fault
abbrev pub survey_or_fault :
    GuessSettings → Bool → Result (List Entry) CollectionFault → Result (List ℕ) CollectionFault
survey_or_fault guesses show (Ok entries) = Ok (survey_of_list guesses show entries)
survey_or_fault guesses show (Err fault) = Err fault

-- the text of the survey of the collection `bytes`, or its first fault
abbrev pub survey_of : GuessSettings → Bool → List ℕ → Result (List ℕ) CollectionFault
survey_of guesses show bytes = survey_or_fault guesses show (cut bytes)

-- the text of the survey of `entries`, or `TooMany` if they are more than `MAX_ENTRIES`
abbrev pub survey_of_entries : GuessSettings → Bool → List Entry → Result (List ℕ) CollectionFault
survey_of_entries guesses show entries =
    if nat_lt MAX_ENTRIES (length entries) then Err TooMany
    else Ok (survey_of_list guesses show entries)
