-- Answers to the puzzles among entries that were read.
use Rattle.std.specs.Prelude.{◌≡◌, ◌≤◌, ◌+◌, ◌++◌, ℕ, List, [], ◌∷◌, length, map, take, drop, count_by, is_none, Option, None, Some, Result, Ok, Err}
use Rattle.grid_core.specs.Nonogram.{Nonogram}
use Rattle.puzzle_text.specs.declared.faults.EntryFault.{EntryFault}
use Rattle.lane_core.specs.declared.answers.Answer.{Answer}
use Rattle.puzzle_text.specs.Shown.{shown_entry}
use Rattle.puzzle_text.specs.declared.collections.Entry.{Entry}
use Rattle.puzzle_text.specs.declared.limits.TheConstants.{MAX_ENTRIES}
use Rattle.survey_text.specs.Forms.{FormEntry}
use Rattle.survey_text.specs.FormSurveys.{surveyed}
use Rattle.survey_text.specs.Survey.{GuessSettings}
use Rattle.survey_core.specs.GuessSettings.{guess_settings}
use Rattle.survey_core.specs.Results.{IsAnswerOn, parsed_all}
use Rattle.survey_core.specs.steps.ParsedEntries.{fault_of}
use Rattle.survey_core.specs.declared.grading.GradedEntries.{GradedEntries}
use Rattle.survey_core.specs.declared.settings.Settings.{Settings}

-- the answers are those to the puzzles among what was read, in order
abbrev pub AreGraded : GuessSettings → List (Result Nonogram EntryFault) → List Answer → Type 0
AreGraded guesses [] [] = Unit {0}
AreGraded guesses [] (answer ∷ answers) = ⊥
AreGraded guesses (Err fault ∷ parsed) answers = AreGraded guesses parsed answers
AreGraded guesses (Ok p ∷ parsed) [] = ⊥
AreGraded guesses (Ok p ∷ parsed) (answer ∷ answers) =
    IsAnswerOn guesses p answer × AreGraded guesses parsed answers

-- the faults of these entries, and the answers to the puzzles among them
pub record AreGradedEntries (settings : Settings) (entries : List Entry) (graded : GradedEntries)
    : Type 0 where
  pub faults : graded.faults.items ≡ map fault_of (parsed_all entries)
  pub answers : AreGraded (guess_settings settings) (parsed_all entries) graded.answers.items

-- how many of the entries with these `faults` have none, and so are puzzles
abbrev pub puzzle_count : List (Option EntryFault) → ℕ
puzzle_count faults = count_by is_none faults

-- `entries`, each with its puzzle and the report on that, or with its fault
abbrev pub surveyed_all : GuessSettings → List Entry → List FormEntry
surveyed_all guesses entries = map (surveyed guesses) (map shown_entry entries)

-- `all` from index `first` on are the faults of `entries` and of some others after them, and the
-- answers from there on, of `answers`, are those to the puzzles among all of these
pub record AreAnswersAt (guesses : GuessSettings) (all : List (Option EntryFault))
    (answers : List Answer) (first : ℕ) (entries : List Entry)
    : Type 0 where
  pub behind : List Entry
  pub few : first + length entries ≤ MAX_ENTRIES
  pub faults : drop first all ≡ map fault_of (parsed_all (entries ++ behind))
  pub graded : AreGraded guesses (parsed_all (entries ++ behind))
      (drop (puzzle_count (take first all)) answers)

-- for each of these faults of entries the fault, and where there is none the next answer, as far as
-- there are answers
abbrev pub results_of : List (Option EntryFault) → List Answer → List (Result Answer EntryFault)
results_of [] answers = []
results_of (Some fault ∷ faults) answers = Err fault ∷ results_of faults answers
results_of (None ∷ faults) [] = []
results_of (None ∷ faults) (answer ∷ answers) = Ok answer ∷ results_of faults answers
