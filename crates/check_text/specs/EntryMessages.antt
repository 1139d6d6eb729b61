-- The message on an entry, graded or refused.
use Rattle.std.specs.Prelude.{ℕ, List, Result, Ok, Err}
use Rattle.puzzle_text.specs.declared.faults.EntryFault.{EntryFault}
use Rattle.survey_text.specs.Forms.{FormEntry, ReportedPuzzle}
use Rattle.check_text.specs.Messages.{puzzle_message, refused_message}

-- the message on the entry with this name, this text and this result
abbrev pub result_message : List ℕ → List ℕ → Result ReportedPuzzle EntryFault → List ℕ
result_message name body (Ok reported) =
    puzzle_message reported.puzzle reported.guesses.limit reported.findings
result_message name body (Err fault) = refused_message name body fault

-- the sentence of the first finding on `entry`, or nothing if there is none
abbrev pub entry_message : FormEntry → List ℕ
entry_message entry = result_message entry.name entry.body entry.result
