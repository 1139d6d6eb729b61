-- The report on a puzzle as a line of JSON.
use Rattle.std.specs.Prelude.{ℕ, List, Option, Some, None, Result, Ok, Err}
use Rattle.grid_core.specs.Nonogram.{Nonogram}
use Rattle.solve_core.specs.Report.{findings_of}
use Rattle.solve_core.specs.declared.picks.Pick.{Pick}
use Rattle.survey_text.specs.Forms.{FormEntry}
use Rattle.survey_json.specs.Entries.{object_of}
use Rattle.survey_json.specs.Lines.{line_of}
use Rattle.nonograde_c.specs.Calls.{answer_on, pick_within, puzzle_of}
use Rattle.nonograde_c.specs.declared.faults.Fault.{Fault}
use Rattle.nonograde_c.specs.declared.faults.Fault.TheVariants.{Setting}

-- `p`, in the text `body`, as an entry of a survey with this limit on guesses and this pick
abbrev pub entry_of : List ℕ → List ℕ → ℕ → Pick → Nonogram → FormEntry
entry_of name body limit pick p = record {
  name = name;
  body = body;
  result = Ok (record {
    puzzle = p;
    guesses = record { limit = limit; pick = pick };
    findings = findings_of pick p limit;
  });
}

-- the line of JSON that a survey prints for `p` as its first entry
abbrev pub report_text : List ℕ → List ℕ → ℕ → Pick → Nonogram → List ℕ
report_text name body limit pick p = line_of (object_of 1 (entry_of name body limit pick p))

-- the report on the puzzle in `body` by a guess rule; without a rule, the fault of a bad setting
abbrev pub report_by : Option Pick → ℕ → List ℕ → ℕ → List ℕ → Result (List ℕ) Fault
report_by None guesses name format body = Err Setting
report_by (Some pick) guesses name format body =
    answer_on (λ p. Ok (report_text name body guesses pick p)) (puzzle_of format body)

-- the report on the puzzle in `body`, as an entry with the name `name`; `pick` is the number of the
-- guess rule
abbrev pub report_answer : ℕ → ℕ → List ℕ → ℕ → List ℕ → Result (List ℕ) Fault
report_answer guesses pick name format body =
    report_by (pick_within guesses pick) guesses name format body
