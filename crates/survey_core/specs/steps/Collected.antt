-- The jobs and the answers of a collection, lane by lane.
use Rattle.std.specs.Prelude.{List, [], ◌∷◌, map}
use Rattle.lane_core.specs.Answers.{AreAnswersTo}
use Rattle.lane_core.specs.declared.jobs.Job.{Job}
use Rattle.lane_core.specs.declared.answers.Answer.{Answer}
use Rattle.survey_core.specs.declared.lanes.DealtLane.{DealtLane}

-- the jobs dealt to each of the lanes
abbrev pub dealt_jobs : List DealtLane → List (List Job)
dealt_jobs lanes = map (λ lane. lane.dealt.value.items) lanes

-- there are as many lists of answers as of jobs, and each has the answers to the jobs at its index
abbrev pub EachAnswered : List (List Job) → List (List Answer) → Type 0
EachAnswered [] [] = Unit {0}
EachAnswered (jobs ∷ rest) (answers ∷ more) = AreAnswersTo jobs answers × EachAnswered rest more
EachAnswered [] (answers ∷ more) = ⊥
EachAnswered (jobs ∷ rest) [] = ⊥
