-- Lemmas on forms: entries without their texts, and what the form of text prints.
use Rattle.std.proofs.Common.{◌≡◌, ℕ, ◌+◌, ◌<◌, ◌^◌, Bool, List, [], ◌∷◌, ◌++◌, length, map, ap, ◌∙◌, refl, Result, Ok, Err, arith}
use Rattle.std.proofs.lemmas.List.{length-append, length-map}
use Rattle.std.specs.List.{enumerate_from, flat_map}
use Rattle.grid_core.specs.Nonogram.{Nonogram}
use Rattle.grid_core.specs.declared.memory.NoMemory.{NoMemory}
use Rattle.solve_core.specs.declared.findings.Findings.{Findings}
use Rattle.puzzle_text.specs.Collections.{Entry, cut}
use Rattle.puzzle_text.specs.Formats.{read_entry}
use Rattle.puzzle_text.specs.declared.faults.CollectionFault.{CollectionFault}
use Rattle.puzzle_text.specs.declared.faults.EntryFault.{EntryFault}
use Rattle.grid_core.specs.declared.limits.TheConstants.{MAX_SIDE}
use Rattle.lane_core.specs.declared.answers.Answer.{Answer}
use Rattle.survey_text.specs.Entries.{GradedEntry, entry_text, found_of, shown_outcome, shown_result}
use Rattle.survey_text.specs.Forms.{FormEntry, entries_in, found_in, report_or_fault, text_form, text_in, without_text}
use Rattle.survey_text.specs.FormSurveys.{report_in, survey_in, survey_of_entries_in, survey_of_list_in, survey_or_fault_in, surveyed}
use Rattle.survey_text.specs.Survey.{GuessSettings, graded, reported, survey_of, survey_of_entries, survey_of_list, survey_or_fault, survey_text}
use Rattle.survey_text.specs.steps.Listings.{report_or_refusal, textless}
use Rattle.survey_text.specs.declared.outcomes.Outcome.{Outcome}

-- as few entries as before are left without their texts
pub few_without_text : (entries behind : List FormEntry) → length (entries ++ behind) < 2 ^ 31
    → length (map without_text entries ++ map without_text behind) < 2 ^ 31
few_without_text entries behind few =
    omega (
      arith,
      few,
      length-append entries behind,
      length-append (map without_text entries) (map without_text behind),
      length-map entries without_text,
      length-map behind without_text,
    )

-- the form of text prints of each entry what doesn't depend on its text
entries_in-text : (show : Bool) (first : ℕ) (entries : List FormEntry)
    → entries_in (text_form show) first entries
    ≡ flat_map (λ (numbered : ℕ × GradedEntry). entry_text show numbered.0 numbered.1) (enumerate_from first (map without_text entries))
entries_in-text show first [] = refl
entries_in-text show first (entry ∷ entries) =
    ap (λ (others : List ℕ). entry_text show first (without_text entry) ++ others) (entries_in-text show (first + 1) entries)

-- the form of text prints the text of a survey
pub text_in-text : (show : Bool) (entries : List FormEntry)
    → text_in (text_form show) entries ≡ survey_text show (map without_text entries)
text_in-text show entries = rw (entries_in-text show 1 entries)

-- a report is the findings that it has, if only these count
found_in-report : (p : Nonogram) (guesses : GuessSettings) (outcome : Result Findings NoMemory)
    → found_in (report_or_fault p guesses outcome) ≡ found_of p outcome
found_in-report p guesses (Ok found) = refl
found_in-report p guesses (Err refused) = refl

-- the result of an outcome, without how the search guessed
found_in-outcome : (result : Result Answer EntryFault) → found_in (report_or_refusal result) ≡ shown_result result
found_in-outcome (Ok answer) = found_in-report answer.puzzle _ answer.outcome
found_in-outcome (Err fault) = refl

-- an outcome has no text
pub without_text-outcomes : (outcomes : List Outcome) → map without_text (map textless outcomes) ≡ map shown_outcome outcomes
without_text-outcomes [] = refl
without_text-outcomes (outcome ∷ outcomes) =
    rw (found_in-outcome outcome.result, without_text-outcomes outcomes)

-- an entry that is surveyed is graded, if only its findings count
found_in-parsed : (guesses : GuessSettings) (parsed : Result Nonogram EntryFault)
    → found_in (report_in guesses parsed) ≡ reported guesses parsed
found_in-parsed guesses (Ok p) = refl
found_in-parsed guesses (Err fault) = refl

-- entries that are surveyed are the graded entries, if their texts don't count
without_text-surveyed : (guesses : GuessSettings) (entries : List Entry)
    → map without_text (map (surveyed guesses) entries) ≡ map (graded guesses) entries
without_text-surveyed guesses [] = refl
without_text-surveyed guesses (entry ∷ entries) =
    rw (found_in-parsed guesses (read_entry MAX_SIDE entry), without_text-surveyed guesses entries)

-- the survey of entries in the form of text is the text of their survey
pub survey_of_list-text : (guesses : GuessSettings) (show : Bool) (entries : List Entry)
    → survey_of_list_in (text_form show) guesses entries ≡ survey_of_list guesses show entries
survey_of_list-text guesses show entries =
    text_in-text show (map (surveyed guesses) entries) ∙ ap (survey_text show) (without_text-surveyed guesses entries)

-- the same, if there may be a fault in their place
survey_or_fault-text : (guesses : GuessSettings) (show : Bool) (entries : Result (List Entry) CollectionFault)
    → survey_or_fault_in (text_form show) guesses entries ≡ survey_or_fault guesses show entries
survey_or_fault-text guesses show (Ok entries) = ap (λ (text : List ℕ). Ok text) (survey_of_list-text guesses show entries)
survey_or_fault-text guesses show (Err fault) = refl

-- the survey of a collection in the form of text is the text of its survey
pub survey-text : (guesses : GuessSettings) (show : Bool) (bytes : List ℕ)
    → survey_in (text_form show) guesses bytes ≡ survey_of guesses show bytes
survey-text guesses show bytes = survey_or_fault-text guesses show (cut bytes)

-- the survey of some entries in the form of text is the text of their survey
pub survey_of_entries-text : (guesses : GuessSettings) (show : Bool) (entries : List Entry)
    → survey_of_entries_in (text_form show) guesses entries ≡ survey_of_entries guesses show entries
survey_of_entries-text guesses show entries = rw (survey_of_list-text guesses show entries)
