-- What the steps of a lane's back do to its lists.
use Rattle.std.specs.Prelude.{◌≡◌, ℕ, ◌≤◌, ◌⊎◌, false, List, [], ◌∷◌, length, IsSome, None}
use Rattle.lane_core.specs.Messages.{has_finish}
use Rattle.lane_core.specs.Lane.{FrontLists, BackLists, TakesMessage, PutsAnswer, IsFinished}
use Rattle.lane_core.specs.declared.answers.Answer.{Answer}
use Rattle.lane_core.specs.declared.messages.Message.{Message}
use Rattle.lane_core.specs.declared.messages.Message.TheVariants.{Finish}
use Rattle.lane_core.specs.declared.steps.Step.{Step}
use Rattle.lane_core.specs.declared.steps.Step.TheVariants.{Idle, Graded, Waiting, Done}

-- some message is taken from `old` to `new`
abbrev pub TakesSome : BackLists → BackLists → Type 0
TakesSome old new = (message : Message) × TakesMessage message old new

-- some answer is put from `old` to `new`
abbrev pub PutsSome : BackLists → BackLists → Type 0
PutsSome old new = (answer : Answer) × PutsAnswer answer old new

-- from `old` to `new` a message is taken and then an answer is put
abbrev pub TakesThenPuts : BackLists → BackLists → Type 0
TakesThenPuts old new = (mid : BackLists) × TakesSome old mid × PutsSome mid new

-- a back that has not taken the finish, in a lane of `capacity`, may take this step from `old` to
-- `new`
abbrev pub StepsBeforeFinish : ℕ → Step → BackLists → BackLists → Type 0
StepsBeforeFinish capacity Idle old new = (new ≡ old) × (new.held ≡ None)
StepsBeforeFinish capacity Graded old new = PutsSome old new ⊎ TakesThenPuts old new
StepsBeforeFinish capacity Waiting old new =
    ((new ≡ old) ⊎ TakesSome old new) × IsSome new.held × (capacity ≤ length new.put)
StepsBeforeFinish capacity Done old new = TakesMessage Finish old new

-- a back in a lane of `capacity` may take `step` from `old` to `new`: once it has taken the finish,
-- only `Done`, without effect
abbrev pub Steps : ℕ → Step → BackLists → BackLists → Type 0
Steps capacity step old new =
    (IsFinished old × (step ≡ Done) × (new ≡ old))
    ⊎ ((has_finish old.taken ≡ false) × StepsBeforeFinish capacity step old new)

-- the steps lead one after another from `old` to `new`
abbrev pub StepRun : ℕ → List Step → BackLists → BackLists → Type 0
StepRun capacity [] old new = new ≡ old
StepRun capacity (step ∷ steps) old new =
    (mid : BackLists) × Steps capacity step old mid × StepRun capacity steps mid new

-- some steps lead from `old` to `new`
abbrev pub Works : ℕ → BackLists → BackLists → Type 0
Works capacity old new = (steps : List Step) × StepRun capacity steps old new

-- a worker can do nothing more: the finish was taken; or no message waits and no answer is held; or
-- an answer is held, and at least as many were put as the ring holds
abbrev pub IsWorkDone : ℕ → FrontLists → BackLists → Type 0
IsWorkDone capacity front back =
    IsFinished back
    ⊎ (((back.taken ≡ front.sent) × (back.held ≡ None))
    ⊎ (IsSome back.held × (capacity ≤ length back.put)))
