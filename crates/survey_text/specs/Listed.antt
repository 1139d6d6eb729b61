-- An entry with borrowed results, as a form prints it.
use Rattle.std.specs.Prelude.{Result, Ok, Err}
use Rattle.puzzle_text.specs.declared.faults.EntryFault.{EntryFault}
use Rattle.survey_text.specs.Forms.{FormEntry, ReportedPuzzle, guesses_of}
use Rattle.survey_text.specs.declared.listed.GradedPuzzle.{GradedPuzzle}
use Rattle.survey_text.specs.declared.listed.ListedEntry.{ListedEntry}

-- the puzzle with the report that is borrowed, or the fault
abbrev pub borrowed_report : Result GradedPuzzle EntryFault → Result ReportedPuzzle EntryFault
borrowed_report (Ok graded) = Ok (record {
  puzzle = graded.answer.now.puzzle;
  guesses = guesses_of graded.answer.now;
  findings = graded.findings.now;
})
borrowed_report (Err fault) = Err fault

-- `entry` as a form prints it
abbrev pub form_entry : ListedEntry → FormEntry
form_entry entry = record {
  name = entry.name.now;
  body = entry.body.now;
  result = borrowed_report entry.result;
}
