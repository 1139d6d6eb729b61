-- Lemmas on sequences of entries with their answers: what they list are the surveyed entries.
use Rattle.std.proofs.Common.{◌≡◌, List, [], ◌∷◌, ◌++◌, map, Some, Result, Ok, Err, refl}
use Rattle.grid_core.specs.Nonogram.{Nonogram}
use Rattle.grid_core.specs.declared.memory.NoMemory.{NoMemory}
use Rattle.solve_core.specs.declared.findings.Findings.{Findings}
use Rattle.puzzle_text.specs.Collections.{Entry}
use Rattle.puzzle_text.specs.Shown.{shown_entry}
use Rattle.puzzle_text.specs.declared.collections.Entry.{Entry as KeptEntry}
use Rattle.puzzle_text.specs.declared.faults.EntryFault.{EntryFault}
use Rattle.lane_core.specs.Outcome.{IsOutcome}
use Rattle.lane_core.specs.declared.answers.Answer.{Answer}
use Rattle.survey_text.specs.Forms.{FormEntry, guesses_of}
use Rattle.survey_text.specs.FormSurveys.{report_in, surveyed}
use Rattle.survey_text.specs.Listings.{answered, if_graded, refused}
use Rattle.survey_text.specs.Survey.{GuessSettings}
use Rattle.survey_core.specs.steps.Graded.{AreGraded}
use Rattle.survey_core.specs.Results.{IsAnswerOn, parsed, parsed_all}
use Rattle.survey_core.specs.steps.ParsedEntries.{fault_of}

-- an entry that was listed with what was found of its puzzle is the surveyed entry
surveyed_is : (guesses : GuessSettings) (named : Entry) (p : Nonogram) (outcome : Result Findings NoMemory) (entry : FormEntry)
    → IsOutcome p guesses.limit guesses.pick outcome → if_graded named p guesses outcome ≡ Some entry
    → entry ≡ record { name = named.name; body = named.body; result = report_in guesses (Ok p) }
surveyed_is guesses named p (Err refused) entry is_outcome listed = cc
surveyed_is guesses named p (Ok found) entry is_outcome listed = cc

-- the answer to a puzzle was found by the guesses of the survey
guesses_are : (guesses : GuessSettings) (p : Nonogram) (answer : Answer) → IsAnswerOn guesses p answer → guesses_of answer ≡ guesses
guesses_are guesses p answer is = rw (is.limit, is.pick)

-- an entry that was listed with an answer is the surveyed entry
answer_is : (guesses : GuessSettings) (named : Entry) (p : Nonogram) (answer : Answer) (entry : FormEntry) → IsAnswerOn guesses p answer
    → if_graded named answer.puzzle (guesses_of answer) answer.outcome ≡ Some entry
    → entry ≡ record { name = named.name; body = named.body; result = report_in guesses (Ok p) }
answer_is guesses named p answer entry is listed =
    surveyed_is guesses named p answer.outcome entry is.outcome (rw (is.puzzle, guesses_are guesses p answer is) at listed)

-- if no entry is missing from what was listed, the surveyed entries were, even if further faults and answers follow
pub listed_graded : (guesses : GuessSettings) (entries : List KeptEntry) (read others : List (Result Nonogram EntryFault))
    (answers : List Answer)
    (all : List FormEntry) → read ≡ parsed_all entries ++ others → AreGraded guesses read answers
    → answered entries (map fault_of read) answers ≡ map Some all → all ≡ map (surveyed guesses) (map shown_entry entries)
listed_graded guesses [] read others answers [] same graded_so listed = refl
listed_graded guesses (entry ∷ entries) (Err fault ∷ read) others answers (next ∷ all) same graded_so listed =
    let here : Err fault ≡ parsed entry = cc in
    let rest = listed_graded guesses entries read others answers all (cc) graded_so (cc) in
    rw (← here) (cc)
listed_graded guesses (entry ∷ entries) (Ok p ∷ read) others (answer ∷ answers) (next ∷ all) same graded_so listed =
    let here : Ok p ≡ parsed entry = cc in
    let head = answer_is guesses (shown_entry entry) p answer next graded_so.0 (cc) in
    let rest = listed_graded guesses entries read others answers all (cc) graded_so.1 (cc) in
    rw (← here) (cc)
listed_graded guesses (entry ∷ entries) (Ok p ∷ read) others [] all same graded_so listed = absurd graded_so
listed_graded guesses entries read others answers all same graded_so listed = cc
