-- Lemmas on the text that is printed of an answer.
use Rattle.std.proofs.Common.{◌≡◌, ◌∙◌, ℕ, true, false, List, ap, subst, Result, Ok, Err, IsOk}
use Rattle.std.specs.Prelude.{IfOk, OnOk, Vec}
use Rattle.std.specs.declared.alloc.Global.{Global}
use Rattle.grid_core.specs.Nonogram.{Nonogram}
use Rattle.grid_core.specs.declared.memory.NoMemory.{NoMemory}
use Rattle.lane_core.specs.Answers.{IsAnswerTo}
use Rattle.lane_core.specs.Outcome.{IsOutcome}
use Rattle.lane_core.specs.declared.answers.Answer.{Answer}
use Rattle.lane_core.specs.declared.jobs.Job.{Job}
use Rattle.solve_core.specs.Report.{findings_of}
use Rattle.solve_core.specs.declared.findings.Findings.{Findings}
use Rattle.solve_core.specs.declared.picks.Pick.{Pick}
use Rattle.puzzle_text.specs.declared.faults.EntryFault.{EntryFault}
use Rattle.survey_text.specs.Entries.{entry_text, found_of}
use Rattle.reports.specs.Reports.{solve_text}

-- if the outcome of a puzzle is not a failure, its findings are the report on the puzzle
found_is : (limit : ℕ) (pick : Pick) (p q : Nonogram) (outcome : Result Findings NoMemory) → q ≡ p →
    IsOutcome p limit pick outcome → IsOk outcome → found_of q outcome ≡ Ok (p, findings_of pick p limit)
found_is limit pick p q (Err refused) e is_outcome ok = let bad : false ≡ true = ok in cc
found_is limit pick p q (Ok findings) e is_outcome ok =
    ap (λ (r : Nonogram). found_of r (Ok findings)) e ∙ ap (λ (found : Findings). found_of p (Ok found)) is_outcome

-- the text printed of an answer is that of the puzzle of its job
pub answer_printed : (name : List ℕ) (p : Nonogram) (limit : ℕ) (pick : Pick) (job : Job) (answer : Answer)
    (made : Result (Vec ℕ Global) NoMemory)
    → job.puzzle ≡ p → job.guesses ≡ limit → job.pick ≡ pick → IsAnswerTo job answer
    → IfOk made (λ text. text.items ≡ entry_text true 1 (record { name = name; result = found_of answer.puzzle answer.outcome }))
    → OnOk made (IsOk answer.outcome) → IfOk made (λ text. text.items ≡ solve_text name limit pick p)
answer_printed name p limit pick job answer (Err refused) puzzle guesses rule answers text ok = tt
answer_printed name p limit pick job answer (Ok made) puzzle guesses rule answers text ok =
    let of_puzzle = subst (λ (q : Nonogram). IsOutcome q job.guesses job.pick answer.outcome) puzzle answers.outcome in
    let of_limit = subst (λ (limit' : ℕ). IsOutcome p limit' job.pick answer.outcome) guesses of_puzzle in
    let outcome = subst (λ (pick' : Pick). IsOutcome p limit pick' answer.outcome) rule of_limit in
    let found = found_is limit pick p answer.puzzle answer.outcome (answers.puzzle ∙ puzzle) outcome ok in
    text ∙ ap (λ (found' : Result (Nonogram × Findings) EntryFault). entry_text true 1 (record { name = name; result = found' })) found
