-- Entries that were read, with their faults and with the answers to the puzzles among them.
use Rattle.std.specs.Prelude.{List, [], ◌∷◌, Option, Some, None, Result, Ok, Err}
use Rattle.grid_core.specs.Nonogram.{Nonogram}
use Rattle.grid_core.specs.declared.memory.NoMemory.{NoMemory}
use Rattle.solve_core.specs.declared.findings.Findings.{Findings}
use Rattle.puzzle_text.specs.Collections.{Entry}
use Rattle.puzzle_text.specs.Shown.{shown_entry}
use Rattle.puzzle_text.specs.declared.collections.Entry.{Entry as KeptEntry}
use Rattle.puzzle_text.specs.declared.faults.EntryFault.{EntryFault}
use Rattle.lane_core.specs.declared.answers.Answer.{Answer}
use Rattle.survey_text.specs.Forms.{FormEntry, guesses_of}
use Rattle.survey_text.specs.Survey.{GuessSettings}

-- `entry`, refused for `fault`
abbrev pub refused : Entry → EntryFault → FormEntry
refused entry fault = record { name = entry.name; body = entry.body; result = Err fault }

-- `entry` with what was found of its puzzle `p`, or none if an allocation failed
abbrev pub if_graded :
    Entry → Nonogram → GuessSettings → Result Findings NoMemory → Option FormEntry
if_graded entry p guesses (Ok found) = Some (record {
  name = entry.name;
  body = entry.body;
  result = Ok (record { puzzle = p; guesses = guesses; findings = found });
})
if_graded entry p guesses (Err refused) = None

-- the entries, each with its fault or else with the next answer (none if that failed), as far as
-- there are entries, faults and answers
abbrev pub answered :
    List KeptEntry → List (Option EntryFault) → List Answer → List (Option FormEntry)
answered [] faults answers = []
answered (entry ∷ entries) [] answers = []
answered (entry ∷ entries) (Some fault ∷ faults) answers =
    Some (refused (shown_entry entry) fault) ∷ answered entries faults answers
answered (entry ∷ entries) (None ∷ faults) [] = []
answered (entry ∷ entries) (None ∷ faults) (answer ∷ answers) =
    if_graded (shown_entry entry) answer.puzzle (guesses_of answer) answer.outcome
    ∷ answered entries faults answers
