-- Which answers are those to which jobs.
use Rattle.std.specs.Prelude.{◌≡◌, List, [], ◌∷◌}
use Rattle.lane_core.specs.Outcome.{IsOutcome}
use Rattle.lane_core.specs.declared.jobs.Job.{Job}
use Rattle.lane_core.specs.declared.answers.Answer.{Answer}

-- `answer` has the number, puzzle, limit and pick of `job`, and an outcome of that puzzle, limit
-- and pick
pub record IsAnswerTo (job : Job) (answer : Answer) : Type 0 where
  pub number : answer.number ≡ job.number
  pub puzzle : answer.puzzle ≡ job.puzzle
  pub guesses : answer.guesses ≡ job.guesses
  pub pick : answer.pick ≡ job.pick
  pub outcome : IsOutcome job.puzzle job.guesses job.pick answer.outcome

-- there are as many answers as jobs, and each is the answer to the job at the same index
abbrev pub AreAnswersTo : List Job → List Answer → Type 0
AreAnswersTo [] [] = Unit {0}
AreAnswersTo (job ∷ jobs) (answer ∷ answers) = IsAnswerTo job answer × AreAnswersTo jobs answers
AreAnswersTo [] (answer ∷ answers) = ⊥
AreAnswersTo (job ∷ jobs) [] = ⊥
