-- What each of the three parts of a call of `deal` does.
use Rattle.std.specs.Prelude.{◌≡◌, ℕ, ◌⊎◌, List, [], ◌++◌}
use mathlib.Core.List.{IsPrefix}
use Rattle.lane_core.specs.Messages.{has_finish, jobs_of}
use Rattle.lane_core.specs.Lane.{FrontLists, PutsMessage}
use Rattle.lane_core.specs.declared.messages.Message.TheVariants.{Finish}
use Rattle.lane_core.specs.declared.jobs.Job.{Job}
use Rattle.lane_core.specs.declared.answers.Answer.{Answer}
use Rattle.lane_core.specs.Dealing.{MayRefuse, Receives}

-- sending jobs from `waiting`, until none is left or one is refused, leads from `old` to `new`,
-- with `waiting'` left
pub record Sends (capacity : ℕ) (old new : FrontLists) (waiting waiting' : List Job) : Type 0 where
  pub jobs : jobs_of new.sent ++ waiting' ≡ jobs_of old.sent ++ waiting
  pub sent : IsPrefix old.sent new.sent
  pub received : new.received ≡ old.received
  pub finish : has_finish new.sent ≡ has_finish old.sent
  pub refused : (waiting' ≡ []) ⊎ MayRefuse capacity new

-- sending the finish if no job waits leads from `old` to `new`
abbrev pub SendsFinish : ℕ → FrontLists → FrontLists → List Job → Type 0
SendsFinish capacity old new waiting =
    ((waiting ≡ []) × PutsMessage Finish old new)
    ⊎ ((new ≡ old) × ((waiting ≡ []) → MayRefuse capacity new))

-- taking answers leads from `old` to `new`, and appends them to `got`, which becomes `got'`
pub record Takes (old new : FrontLists) (got got' : List Answer) : Type 0 where
  pub sent : new.sent ≡ old.sent
  pub answers : (fresh : List Answer) × Receives old new got got' fresh
