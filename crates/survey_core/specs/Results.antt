-- The results of grading entries.
use Rattle.std.specs.Prelude.{◌≡◌, List, [], ◌∷◌, map, Result, Ok, Err}
use Rattle.grid_core.specs.Nonogram.{Nonogram}
use Rattle.grid_core.specs.declared.limits.TheConstants.{MAX_SIDE}
use Rattle.puzzle_text.specs.Formats.{read_entry}
use Rattle.puzzle_text.specs.Shown.{shown_entry}
use Rattle.puzzle_text.specs.declared.collections.Entry.{Entry}
use Rattle.puzzle_text.specs.declared.faults.EntryFault.{EntryFault}
use Rattle.lane_core.specs.Outcome.{IsOutcome}
use Rattle.lane_core.specs.declared.answers.Answer.{Answer}
use Rattle.survey_text.specs.Survey.{GuessSettings}

-- the puzzle of `entry`, or its fault
abbrev pub parsed : Entry → Result Nonogram EntryFault
parsed entry = read_entry MAX_SIDE (shown_entry entry)

-- the puzzle or the fault of each of the entries
abbrev pub parsed_all : List Entry → List (Result Nonogram EntryFault)
parsed_all entries = map parsed entries

-- the answer is one on the puzzle `p`, by these settings
pub record IsAnswerOn (guesses : GuessSettings) (p : Nonogram) (answer : Answer) : Type 0 where
  pub puzzle : answer.puzzle ≡ p
  pub limit : answer.guesses ≡ guesses.limit
  pub pick : answer.pick ≡ guesses.pick
  pub outcome : IsOutcome p guesses.limit guesses.pick answer.outcome

-- the result of an entry, given what reading it returned: an answer on its puzzle, or its fault
abbrev pub IsResultOf :
    GuessSettings → Result Nonogram EntryFault → Result Answer EntryFault → Type 0
IsResultOf guesses (Ok p) (Ok answer) = IsAnswerOn guesses p answer
IsResultOf guesses (Ok p) (Err fault) = ⊥
IsResultOf guesses (Err fault) result = result ≡ Err fault

-- there are as many results as entries, and each is that of the entry at the same index
abbrev pub AreResultsOf :
    GuessSettings → List (Result Nonogram EntryFault) → List (Result Answer EntryFault) → Type 0
AreResultsOf guesses [] [] = Unit {0}
AreResultsOf guesses [] (result ∷ results) = ⊥
AreResultsOf guesses (parsed ∷ others) [] = ⊥
AreResultsOf guesses (parsed ∷ others) (result ∷ results) =
    IsResultOf guesses parsed result × AreResultsOf guesses others results
