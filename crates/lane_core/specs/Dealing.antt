-- What a call of `deal` does to the lane, the waiting jobs and the answers received.
use Rattle.std.specs.Prelude.{◌≡◌, ℕ, ◌+◌, ◌<◌, ◌≤◌, ◌⊎◌, true, List, [], ◌++◌, length}
use mathlib.Core.List.{IsPrefix}
use Rattle.lane_core.specs.Messages.{has_finish, jobs_of}
use Rattle.lane_core.specs.Lane.{FrontLists}
use Rattle.lane_core.specs.declared.dealing.TheConstants.{MAX_TAKEN}
use Rattle.lane_core.specs.declared.jobs.Job.{Job}
use Rattle.lane_core.specs.declared.answers.Answer.{Answer}

-- a lane of `capacity` may refuse messages: the finish was sent, or at least `capacity` messages
-- were
abbrev pub MayRefuse : ℕ → FrontLists → Type 0
MayRefuse capacity front = (has_finish front.sent ≡ true) ⊎ (capacity ≤ length front.sent)

-- the answers `fresh`, at most `MAX_TAKEN`, were received and appended to `got`, which became
-- `got'`
pub record Receives (old new : FrontLists) (got got' fresh : List Answer) : Type 0 where
  pub received : new.received ≡ old.received ++ fresh
  pub kept : got' ≡ got ++ fresh
  pub few : length fresh ≤ MAX_TAKEN

-- a call of `deal` at a lane of `capacity` leads from `old`, `waiting` and `got` to `new`,
-- `waiting'` and `got'`
pub record Deals (capacity : ℕ) (old new : FrontLists) (waiting waiting' : List Job)
    (got got' : List Answer) : Type 0 where
  -- the jobs sent, followed by those that wait, are the same before and after
  pub jobs : jobs_of new.sent ++ waiting' ≡ jobs_of old.sent ++ waiting
  pub sent : IsPrefix old.sent new.sent
  -- the finish is sent after all jobs
  pub finish_last : has_finish new.sent ≡ true → (has_finish old.sent ≡ true) ⊎ (waiting' ≡ [])
  -- all was sent that the lane had to accept
  pub asked : MayRefuse capacity new
  pub answers : (fresh : List Answer) × Receives old new got got' fresh

-- from `old` to `new` a message was sent or an answer was received
abbrev pub Grows : FrontLists → FrontLists → Type 0
Grows old new = length old.sent + length old.received < length new.sent + length new.received
