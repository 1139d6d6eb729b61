-- Forms in which a survey is printed, and the survey of some entries in a form.
use Rattle.std.specs.Prelude.{ℕ, Bool, List, [], ◌++◌, map, Result, Ok, Err}
use Rattle.std.specs.List.{enumerate_from, flat_map}
use Rattle.grid_core.specs.Nonogram.{Nonogram}
use Rattle.grid_core.specs.declared.memory.NoMemory.{NoMemory}
use Rattle.solve_core.specs.declared.findings.Findings.{Findings}
use Rattle.puzzle_text.specs.declared.faults.EntryFault.{EntryFault}
use Rattle.puzzle_text.specs.declared.faults.EntryFault.TheVariants.{Text}
use Rattle.puzzle_text.specs.declared.faults.TextFault.TheVariants as text
use Rattle.lane_core.specs.declared.answers.Answer.{Answer}
use Rattle.survey_text.specs.Entries.{GradedEntry, entry_text}
use Rattle.survey_text.specs.Survey.{GuessSettings}
use Rattle.survey_text.specs.Totals.{totals_line}

-- a puzzle with the findings of its report, and how the search for that guessed
pub record ReportedPuzzle : Type 0 where
  pub puzzle : Nonogram
  pub guesses : GuessSettings
  pub findings : Findings

-- an entry as a form prints it: its name and its text, with its puzzle and the report on that, or
-- with the fault for which it is refused
pub record FormEntry : Type 0 where
  pub name : List ℕ
  pub body : List ℕ
  pub result : Result ReportedPuzzle EntryFault

-- the puzzle with its findings alone, or the fault
abbrev pub found_in : Result ReportedPuzzle EntryFault → Result (Nonogram × Findings) EntryFault
found_in (Ok reported) = Ok (reported.puzzle, reported.findings)
found_in (Err fault) = Err fault

-- `entry` without its text, and without how the search guessed
abbrev pub without_text : FormEntry → GradedEntry
without_text entry = record { name = entry.name; result = found_in entry.result }

-- a form in which a survey is printed: what stands before the entries, an entry with its number,
-- and what stands after the entries
pub record Form : Type 0 where
  pub head : List ℕ
  pub entry : ℕ → FormEntry → List ℕ
  pub tail : List GradedEntry → List ℕ

-- the texts of `entries` in a form, numbered from `first`
abbrev pub entries_in : Form → ℕ → List FormEntry → List ℕ
entries_in form first entries =
    flat_map (λ numbered. form.entry numbered.0 numbered.1) (enumerate_from first entries)

-- the text of the survey of `entries` in a form
abbrev pub text_in : Form → List FormEntry → List ℕ
text_in form entries =
    form.head ++ entries_in form 1 entries ++ form.tail (map without_text entries)

-- the form of text: a line for each entry, with its solutions if they are asked for, and the line
-- of totals
abbrev pub text_form : Bool → Form
text_form show = record {
  head = [];
  entry = λ number entry. entry_text show number (without_text entry);
  tail = totals_line;
}

-- the puzzle of an answer with its findings, or the fault `NoMemory` if an allocation failed
abbrev pub report_or_fault :
    Nonogram → GuessSettings → Result Findings NoMemory → Result ReportedPuzzle EntryFault
report_or_fault p guesses (Ok found) =
    Ok (record { puzzle = p; guesses = guesses; findings = found })
report_or_fault p guesses (Err refused) = Err (Text text.NoMemory)

-- how the search for an answer guessed
abbrev pub guesses_of : Answer → GuessSettings
guesses_of answer = record { limit = answer.guesses; pick = answer.pick }

-- the puzzle of `answer` with its report, or the fault `NoMemory` if an allocation failed
abbrev pub report_of_answer : Answer → Result ReportedPuzzle EntryFault
report_of_answer answer = report_or_fault answer.puzzle (guesses_of answer) answer.outcome
