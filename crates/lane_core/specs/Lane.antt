-- A lane as a state machine: the lists at its two ends, and the events that change them.
use Rattle.std.specs.Prelude.{◌≡◌, ℕ, ◌+◌, ◌<◌, true, false, List, [], ◌∷◌, ◌++◌, length, Option, Some, None, option_to_list}
use mathlib.Core.List.{IsPrefix}
use Rattle.lane_core.specs.Messages.{has_finish, jobs_of}
use Rattle.lane_core.specs.Answers.{IsAnswerTo, AreAnswersTo}
use Rattle.lane_core.specs.declared.answers.Answer.{Answer}
use Rattle.lane_core.specs.declared.messages.Message.{Message}
use Rattle.lane_core.specs.declared.messages.Message.TheVariants.{NewJob, Finish}

-- the messages that the front has sent, and the answers that it has received
pub record FrontLists : Type 0 where
  pub sent : List Message
  pub received : List Answer

-- the messages that the back has taken, the answer that it holds, and the answers that it has put
pub record BackLists : Type 0 where
  pub taken : List Message
  pub held : Option Answer
  pub put : List Answer

-- the state of a lane, whose rings hold `capacity` items each
pub record Lane : Type 0 where
  pub capacity : ℕ
  pub front : FrontLists
  pub back : BackLists

-- the front of a newly opened lane: nothing was sent or received
abbrev pub initial_front : FrontLists
initial_front = record { sent = []; received = [] }

-- the back of a newly opened lane: nothing was taken or put, and nothing is held
abbrev pub initial_back : BackLists
initial_back = record { taken = []; held = None; put = [] }

-- a newly opened lane of a capacity
abbrev pub initial_lane : ℕ → Lane
initial_lane capacity = record { capacity = capacity; front = initial_front; back = initial_back }

-- what is held once a message was taken: the answer to its job, or nothing after the finish
abbrev pub IsHeldFor : Message → Option Answer → Type 0
IsHeldFor (NewJob job) (Some answer) = IsAnswerTo job answer
IsHeldFor (NewJob job) None = ⊥
IsHeldFor Finish (Some answer) = ⊥
IsHeldFor Finish None = Unit {0}

-- `message` is sent, after all others
pub record PutsMessage (message : Message) (old new : FrontLists) : Type 0 where
  pub sent : new.sent ≡ old.sent ++ message ∷ []
  pub received : new.received ≡ old.received

-- `answer` is received, after all others
pub record ReceivesAnswer (answer : Answer) (old new : FrontLists) : Type 0 where
  pub sent : new.sent ≡ old.sent
  pub received : new.received ≡ old.received ++ answer ∷ []

-- `message` is taken while nothing is held; if it is a job, its answer is held then
pub record TakesMessage (message : Message) (old new : BackLists) : Type 0 where
  pub free : old.held ≡ None
  pub taken : new.taken ≡ old.taken ++ message ∷ []
  pub held : IsHeldFor message new.held
  pub put : new.put ≡ old.put

-- `answer`, which was held, is put after all others
pub record PutsAnswer (answer : Answer) (old new : BackLists) : Type 0 where
  pub was_held : old.held ≡ Some answer
  pub taken : new.taken ≡ old.taken
  pub held : new.held ≡ None
  pub put : new.put ≡ old.put ++ answer ∷ []

-- an event of a lane: the front sends a message or receives an answer, or the back takes a message
-- or puts an answer
pub data LaneEvent : Type 0 where
  Put_message : (message : Message) → LaneEvent
  Take_message : (message : Message) → LaneEvent
  Put_answer : (answer : Answer) → LaneEvent
  Receive_answer : (answer : Answer) → LaneEvent

-- an event can happen in the state `old`, and leads to the state `new`
abbrev pub Happens : LaneEvent → Lane → Lane → Type 0
-- no finish was sent, and the ring is not full
Happens (Put_message message) old new =
    (has_finish old.front.sent ≡ false)
    × (length old.front.sent < length old.back.taken + old.capacity)
    × PutsMessage message old.front new.front
    × (new.back ≡ old.back) × (new.capacity ≡ old.capacity)
-- the message is the oldest that was sent and not taken
Happens (Take_message message) old new =
    IsPrefix (old.back.taken ++ message ∷ []) old.front.sent
    × TakesMessage message old.back new.back
    × (new.front ≡ old.front) × (new.capacity ≡ old.capacity)
-- the ring is not full
Happens (Put_answer answer) old new =
    (length old.back.put < length old.front.received + old.capacity)
    × PutsAnswer answer old.back new.back
    × (new.front ≡ old.front) × (new.capacity ≡ old.capacity)
-- the answer is the oldest that was put and not received
Happens (Receive_answer answer) old new =
    IsPrefix (old.front.received ++ answer ∷ []) old.back.put
    × ReceivesAnswer answer old.front new.front
    × (new.back ≡ old.back) × (new.capacity ≡ old.capacity)

-- the events can happen one after another from the state `old`, and lead to the state `new`
abbrev pub Run : Lane → List LaneEvent → Lane → Type 0
Run old [] new = new ≡ old
Run old (event ∷ events) new = (mid : Lane) × Happens event old mid × Run mid events new

-- the answers put, followed by the one held, are those to the jobs taken, one for each and in order
abbrev pub IsAnswered : BackLists → Type 0
IsAnswered back = AreAnswersTo (jobs_of back.taken) (back.put ++ option_to_list back.held)

-- `back` has taken the finish
abbrev pub IsFinished : BackLists → Type 0
IsFinished back = has_finish back.taken ≡ true

-- all messages sent were taken, no answer is held, and all answers put were received
pub record IsDrained (front : FrontLists) (back : BackLists) : Type 0 where
  pub taken : back.taken ≡ front.sent
  pub held : back.held ≡ None
  pub received : front.received ≡ back.put
