-- Outcomes as a sequence of entries.
use Rattle.std.specs.Prelude.{List, [], map, Option, Some, Result, Ok, Err}
use Rattle.puzzle_text.specs.declared.faults.EntryFault.{EntryFault}
use Rattle.lane_core.specs.declared.answers.Answer.{Answer}
use Rattle.survey_text.specs.Forms.{FormEntry, ReportedPuzzle, report_of_answer}
use Rattle.survey_text.specs.declared.outcomes.Outcome.{Outcome}

-- the puzzle of an answer with its report, or the fault
abbrev pub report_or_refusal : Result Answer EntryFault → Result ReportedPuzzle EntryFault
report_or_refusal (Ok answer) = report_of_answer answer
report_or_refusal (Err fault) = Err fault

-- `outcome` as an entry, whose text isn't known
abbrev pub textless : Outcome → FormEntry
textless outcome = record {
  name = outcome.name.items;
  body = [];
  result = report_or_refusal outcome.result;
}

-- `outcomes` as entries, none of which is missing
abbrev pub in_hand : List Outcome → List (Option FormEntry)
in_hand outcomes = map (λ outcome. Some (textless outcome)) outcomes
