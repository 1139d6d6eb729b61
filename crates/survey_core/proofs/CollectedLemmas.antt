-- Lemmas on the jobs and the answers of lanes.
use Rattle.std.proofs.Common.{◌≡◌, ◌<◌, ℕ, zero, suc, List, [], ◌∷◌, ◌++◌, length, get_or, refl, ap, arith}
use Rattle.std.proofs.Math.Seq.{map-set_same}
use Rattle.lane_core.specs.Answers.{AreAnswersTo}
use Rattle.lane_core.specs.declared.jobs.Job.{Job}
use Rattle.lane_core.specs.declared.answers.Answer.{Answer}
use Rattle.survey_core.specs.steps.Collected.{EachAnswered}

-- a lane's jobs and the answers to them can be appended
pub EachAnswered-push : (jss : List (List Job)) (ass : List (List Answer)) (js : List Job) (answers : List Answer) →
    EachAnswered jss ass → AreAnswersTo js answers → EachAnswered (jss ++ js ∷ []) (ass ++ answers ∷ [])
EachAnswered-push [] [] js answers h one = (one, tt)
EachAnswered-push (j ∷ jss) (a ∷ ass) js answers h one = (h.0, EachAnswered-push jss ass js answers h.1 one)
EachAnswered-push jss ass js answers h one = absurd h

-- the answers at an index are those to the jobs at it
pub EachAnswered-at : (jss : List (List Job)) (ass : List (List Answer)) (k : ℕ) → EachAnswered jss ass → k < length jss →
    AreAnswersTo (get_or jss k []) (get_or ass k [])
EachAnswered-at [] ass k h within = absurd (omega arith)
EachAnswered-at (j ∷ jss) [] k h within = absurd h
EachAnswered-at (j ∷ jss) (a ∷ ass) zero h within = h.0
EachAnswered-at (j ∷ jss) (a ∷ ass) (suc k) h within = EachAnswered-at jss ass k h.1 (omega arith)

-- there are as many lists of answers as of jobs
pub EachAnswered-length : (jss : List (List Job)) (ass : List (List Answer)) → EachAnswered jss ass → length ass ≡ length jss
EachAnswered-length [] [] h = refl
EachAnswered-length (j ∷ jss) (a ∷ ass) h = ap suc (EachAnswered-length jss ass h.1)
EachAnswered-length jss ass h = absurd h

-- replacing one lane by another that was dealt the same jobs changes no list of jobs
pub ruleset places = (map-set_same)
