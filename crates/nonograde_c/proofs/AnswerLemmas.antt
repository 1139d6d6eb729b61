-- The line of JSON of a graded job.
use Rattle.std.proofs.Common.{◌≡◌, ◌∙◌, ℕ, true, false, List, [], Result, Ok, Err, IsOk, ap, subst}
use Rattle.grid_core.specs.Nonogram.{Nonogram}
use Rattle.grid_core.specs.declared.memory.NoMemory.{NoMemory}
use Rattle.lane_core.specs.Answers.{IsAnswerTo}
use Rattle.lane_core.specs.Outcome.{IsOutcome}
use Rattle.lane_core.specs.declared.answers.Answer.{Answer}
use Rattle.lane_core.specs.declared.jobs.Job.{Job}
use Rattle.solve_core.specs.declared.findings.Findings.{Findings}
use Rattle.solve_core.specs.declared.picks.Pick.{Pick}
use Rattle.puzzle_text.specs.declared.faults.EntryFault.{EntryFault}
use Rattle.survey_text.specs.Forms.{FormEntry, ReportedPuzzle, report_of_answer, report_or_fault}
use Rattle.survey_json.specs.Entries.{object_of}
use Rattle.survey_json.specs.Lines.{line_of}
use Rattle.nonograde_c.specs.JsonReports.{entry_of, report_text}

-- if the outcome of a puzzle is not a failure, it is reported with the findings of the report on the puzzle
reported_is : (limit : ℕ) (pick : Pick) (p q : Nonogram) (guesses : ℕ) (rule : Pick) (outcome : Result Findings NoMemory) → q ≡ p
    → guesses ≡ limit → rule ≡ pick → IsOutcome p limit pick outcome → IsOk outcome
    → report_or_fault q (record { limit = guesses; pick = rule }) outcome ≡ (entry_of [] [] limit pick p).result
reported_is limit pick p q guesses rule (Err refused) e f h is_outcome ok = let bad : false ≡ true = ok in cc
reported_is limit pick p q guesses rule (Ok found) e f h is_outcome ok = cc

-- the line of the answer to the job is that of the puzzle of the job
pub line_reported : (name body : List ℕ) (limit : ℕ) (pick : Pick) (p : Nonogram) (entry : FormEntry) (job : Job) (answer : Answer)
    → job.puzzle ≡ p → job.guesses ≡ limit → job.pick ≡ pick → IsAnswerTo job answer → IsOk answer.outcome
    → entry ≡ record { name = name; body = body; result = report_of_answer answer }
    → line_of (object_of 1 entry) ≡ report_text name body limit pick p
line_reported name body limit pick p entry job answer puzzle guesses rule answers ok listed =
    let of_puzzle = subst (λ (q : Nonogram). IsOutcome q job.guesses job.pick answer.outcome) puzzle answers.outcome in
    let of_limit = subst (λ (limit' : ℕ). IsOutcome p limit' job.pick answer.outcome) guesses of_puzzle in
    let outcome = subst (λ (pick' : Pick). IsOutcome p limit pick' answer.outcome) rule of_limit in
    let result =
    reported_is limit pick p answer.puzzle answer.guesses answer.pick answer.outcome (answers.puzzle ∙ puzzle) (answers.guesses ∙ guesses)
    (answers.pick ∙ rule) outcome ok in
    ap (λ (e : FormEntry). line_of (object_of 1 e))
    (listed ∙ ap (λ (r : Result ReportedPuzzle EntryFault). record { name = name; body = body; result = r }) result)
