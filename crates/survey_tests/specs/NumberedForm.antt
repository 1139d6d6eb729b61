-- A form in which a test prints all that a form knows of an entry.
use Rattle.std.specs.Prelude.{ℕ, List, ◌++◌, length, count_by, codes, decimal, Result, Ok, Err}
use Rattle.puzzle_text.specs.Words.{word_of}
use Rattle.puzzle_text.specs.declared.faults.EntryFault.{EntryFault}
use Rattle.survey_text.specs.Entries.{GradedEntry}
use Rattle.survey_text.specs.Forms.{Form, FormEntry, ReportedPuzzle}
use Rattle.survey_text.specs.Totals.{has_status}

-- the limit on guesses by which a puzzle was graded, or the word of the fault
abbrev pub limit_or_word : Result ReportedPuzzle EntryFault → List ℕ
limit_or_word (Ok reported) = decimal reported.guesses.limit
limit_or_word (Err fault) = word_of fault

-- the mark; the number, the name, the limit or the fault, and the text of each entry; how many
-- entries there are, and how many are refused
abbrev pub numbered_form : List ℕ → Form
numbered_form mark = record {
  head = mark;
  entry = λ number entry.
      decimal number ++ codes " " ++ entry.name ++ codes " " ++ limit_or_word entry.result
      ++ codes "\n" ++ entry.body;
  tail = λ entries.
      decimal (length entries) ++ codes " "
      ++ decimal (count_by (has_status (codes "refused")) entries);
}
