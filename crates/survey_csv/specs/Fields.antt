-- The columns of a survey in csv, and the fields of an entry.
use Rattle.std.specs.Prelude.{ℕ, List, [], ◌∷◌, codes, decimal, unwrap_or, Result, Ok, Err}
use Rattle.std.specs.Option.{option_map_or}
use Rattle.grid_core.specs.Description.{text_of}
use Rattle.grid_core.specs.Nonogram.{Nonogram}
use Rattle.grid_core.specs.declared.fields.Field.TheVariants.{By, Title}
use Rattle.puzzle_text.specs.declared.faults.EntryFault.{EntryFault}
use Rattle.solve_core.specs.declared.findings.Findings.{Findings}
use Rattle.survey_text.specs.Entries.{GradedEntry, grade_word, verdict_word}
use Rattle.survey_text.specs.Faults.{fault_line, fault_name}
use Rattle.survey_text.specs.Goals.{goal_text, goal_word}

-- the names of the columns
abbrev pub column_names : List (List ℕ)
column_names =
    codes "number" ∷ codes "name" ∷ codes "width" ∷ codes "height" ∷ codes "verdict"
    ∷ codes "grade" ∷ codes "line_cells" ∷ codes "trial_cells" ∷ codes "guesses" ∷ codes "goal"
    ∷ codes "fault" ∷ codes "fault_line" ∷ codes "message" ∷ codes "title" ∷ codes "by" ∷ []

-- the header line, which names the columns
abbrev pub csv_header : List ℕ
csv_header =
    codes "number,name,width,height,verdict,grade,line_cells,trial_cells,guesses,goal,fault,fault_line,message,title,by\n"

-- the fields of entry `number`, whose puzzle `p` was graded with these findings: the fault and its
-- line are empty, and so is a text that `p` doesn't have
abbrev pub graded_fields : ℕ → List ℕ → Nonogram → Findings → List ℕ → List (List ℕ)
graded_fields number name p findings message =
    decimal number ∷ name ∷ decimal p.width ∷ decimal p.height
    ∷ verdict_word findings.verdict ∷ grade_word findings.grade
    ∷ decimal findings.line_known ∷ decimal findings.trial_known ∷ decimal findings.spent
    ∷ goal_text (goal_word p) ∷ [] ∷ [] ∷ message
    ∷ unwrap_or (text_of p.texts Title) [] ∷ unwrap_or (text_of p.texts By) [] ∷ []

-- the fields of entry `number`, which is refused: only its number and name, its fault, the line
-- that it names, if any, and the message are not empty
abbrev pub refused_fields : ℕ → List ℕ → EntryFault → List ℕ → List (List ℕ)
refused_fields number name fault message =
    decimal number ∷ name ∷ [] ∷ [] ∷ [] ∷ [] ∷ [] ∷ [] ∷ [] ∷ [] ∷ fault_name fault
    ∷ option_map_or decimal (fault_line fault) [] ∷ message ∷ [] ∷ [] ∷ []

-- the fields of entry `number` with this name, this result and this message
abbrev pub result_fields
    : ℕ → List ℕ → Result (Nonogram × Findings) EntryFault → List ℕ → List (List ℕ)
result_fields number name (Ok found) message =
    graded_fields number name found.0 found.1 message
result_fields number name (Err fault) message = refused_fields number name fault message

-- the fields of `entry`, which has the number `number`, with this message
abbrev pub csv_fields : ℕ → GradedEntry → List ℕ → List (List ℕ)
csv_fields number entry message = result_fields number entry.name entry.result message
