-- Lemmas on lists of answers and the jobs that they are to, and on the report in an answer.
use Rattle.lane_core.proofs.Names.{◌≡◌, ℕ, List, [], ◌∷◌, ◌++◌, length, take, Result, Ok, Err, ∥∥₁_elim, IsAnswerTo, AreAnswersTo, IsAnswered, back_lists, Job, Answer}
use Rattle.std.specs.Coded.{×_prop, Unit-prop, Coded-set, coded_ℕ}
use Rattle.grid_core.specs.Nonogram.{Nonogram, IsNonogram}
use Rattle.grid_core.specs.declared.memory.NoMemory.{NoMemory}
use Rattle.grid_core.specs.contracts.puzzles.Puzzle.{the_row as puzzle_row}
use Rattle.solve_core.specs.Picks.{picked}
use Rattle.solve_core.specs.declared.picks.Pick.{Pick}
use Rattle.solve_core.specs.contracts.picks.Pick.{the_row as pick_row}
use Rattle.solve_core.specs.Report.{findings_of}
use Rattle.solve_core.specs.Verdicts.{Holds}
use Rattle.solve_core.specs.declared.findings.Findings.{Findings}
use Rattle.solve_core.specs.contracts.findings.Findings.{the_row}
use Rattle.solve_core.proofs.PickLaws.{picked-IsPick}
use Rattle.solve_core.proofs.AnswerLaws.{verdict-Holds}
use Rattle.lane_core.specs.Outcome.{IsOutcome}
use Rattle.lane_core.specs.declared.backs.LaneBack.{LaneBack}

IsOutcome-prop : (puzzle : Nonogram) (guesses : ℕ) (pick : Pick) (outcome : Result Findings NoMemory)
    → IsProp (IsOutcome puzzle guesses pick outcome)
IsOutcome-prop puzzle guesses pick (Ok found) = Coded-set the_row.coded _ _
IsOutcome-prop puzzle guesses pick (Err refused) = Unit-prop

IsAnswerTo-prop : (job : Job) (answer : Answer) → IsProp (IsAnswerTo job answer)
IsAnswerTo-prop job answer = hlevel (IsOutcome-prop, Coded-set coded_ℕ, Coded-set puzzle_row.coded, Coded-set pick_row.coded)

AreAnswersTo-prop : (jobs : List Job) (answers : List Answer) → IsProp (AreAnswersTo jobs answers)
AreAnswersTo-prop [] [] = Unit-prop
AreAnswersTo-prop (job ∷ jobs) (answer ∷ answers) = ×_prop (IsAnswerTo-prop job answer) (AreAnswersTo-prop jobs answers)
AreAnswersTo-prop jobs answers = λ a b. absurd a

-- the answers that `back` put, and the one that it holds, are those to the jobs that it took
pub back_is_answered : (back : LaneBack) → IsAnswered (back_lists back)
back_is_answered back = ∥∥₁_elim back.answered (AreAnswersTo-prop _ _) (λ x. x)

-- a job and its answer can be appended
pub AreAnswersTo-push : (jobs : List Job) (answers : List Answer) (job : Job) (answer : Answer) →
    AreAnswersTo jobs answers → IsAnswerTo job answer → AreAnswersTo (jobs ++ job ∷ []) (answers ++ answer ∷ [])
AreAnswersTo-push [] [] job answer h one = (one, tt)
AreAnswersTo-push (other ∷ jobs) (first ∷ answers) job answer h one = (h.0, AreAnswersTo-push jobs answers job answer h.1 one)
AreAnswersTo-push jobs answers job answer h one = absurd h

-- if `answers`, with `rest` after them, are those to `jobs`, they are those to the first jobs of a longer list
pub AreAnswersTo-front : (jobs more : List Job) (answers rest : List Answer) →
    AreAnswersTo jobs (answers ++ rest) → AreAnswersTo (take (length answers) (jobs ++ more)) answers
AreAnswersTo-front jobs more [] rest h = tt
AreAnswersTo-front (job ∷ jobs) more (answer ∷ answers) rest h = (h.0, AreAnswersTo-front jobs more answers rest h.1)
AreAnswersTo-front jobs more answers rest h = absurd h

-- the findings in an answer are the report of its puzzle, limit and pick
pub found_is_report : (answer : Answer) (found : Findings) → answer.outcome ≡ Ok found
    → found ≡ findings_of answer.pick answer.puzzle answer.guesses
found_is_report answer found is = ∥∥₁_elim answer.reported (Coded-set the_row.coded _ _) (λ o. rw is at o)

-- the verdict of the findings in an answer is true of all grids
pub found_holds : (answer : Answer) (found : Findings) → answer.outcome ≡ Ok found → IsNonogram answer.puzzle
    → Holds (picked answer.pick answer.puzzle.width) answer.puzzle answer.guesses found.verdict
found_holds answer found is lawful =
    rw (found_is_report answer found is)
    (verdict-Holds _ (picked-IsPick answer.pick answer.puzzle.width) answer.puzzle lawful answer.guesses)

pub ruleset found = (found_is_report, found_holds)
