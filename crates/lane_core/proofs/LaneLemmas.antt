-- What holds of a lane after any events, and that each step of its back keeps its answers in order.
use Rattle.lane_core.proofs.Names.{arith, rules, ◌≡◌, inl, inr, ℕ, true, List, [], ◌∷◌, ◌++◌, refl, ap, sym, ◌∙◌, append_assoc, append-nil, Option, Some, None, option_to_list, IsPrefix, jobs_of, finish_is_last, IsAnswerTo, AreAnswersTo, BackLists, Lane, LaneEvent, Put_message, Take_message, Put_answer, Receive_answer, IsHeldFor, TakesMessage, Happens, Run, initial_lane, IsAnswered, StepsBeforeFinish, Job, Answer, Message, NewJob, Step, Graded, Waiting}
use Rattle.lane_core.specs.steps.PutOrHold.{IsPutOrHeld}
use Rattle.lane_core.proofs.MessagesLemmas.{jobs_of-append, jobs_of-push_finish, finish_is_last-push}
use Rattle.lane_core.proofs.AnswersLemmas.{AreAnswersTo-push}

-- once a message was taken and its answer, if any, is held, the answers are those to the jobs taken
taken_is_answered : (message : Message) (taken : List Message) (put : List Answer) (held : Option Answer) →
    IsHeldFor message held → AreAnswersTo (jobs_of taken) (put ++ [])
    → AreAnswersTo (jobs_of (taken ++ message ∷ [])) (put ++ option_to_list held)
taken_is_answered (NewJob job) taken put (Some answer) h all =
    rw jobs_of-append (AreAnswersTo-push (jobs_of taken) put job answer (rw append-nil at all) h)
taken_is_answered message taken put held h all = grind (arith, jobs_of-push_finish)

-- taking a message keeps that the answers put and held are those to the jobs taken
TakesMessage-answered : (message : Message) (old new : BackLists) → TakesMessage message old new → IsAnswered old → IsAnswered new
TakesMessage-answered message old new t all =
    rw (t.taken, t.put) (taken_is_answered message old.taken old.put new.held t.held (rw t.free at all))

-- what holds of a lane after any events: the answers are those to the jobs taken, each ring is first in, first out, and the finish is last
pub record IsLawful (lane : Lane) : Type 0 where
  pub answered : IsAnswered lane.back
  pub taken : IsPrefix lane.back.taken lane.front.sent
  pub received : IsPrefix lane.front.received lane.back.put
  pub last : finish_is_last lane.front.sent ≡ true

-- a prefix of a list is a prefix of each longer list
pub prefix_more : {A : Type 0} (xs ys zs : List A) → IsPrefix xs ys → IsPrefix xs (ys ++ zs)
prefix_more xs ys zs h = (h.0 ++ zs, sym (append_assoc xs h.0 zs) ∙ ap (λ l. l ++ zs) h.1)

-- each event keeps `IsLawful`
IsLawful-happens : (event : LaneEvent) (old new : Lane) → IsLawful old → Happens event old new → IsLawful new
IsLawful-happens (Put_message message) old new l h =
    let taken = prefix_more old.back.taken old.front.sent (message ∷ []) l.taken in
    search (rules, h.3, h.2.sent, h.2.received, finish_is_last-push, l.answered, l.received)
IsLawful-happens (Take_message message) old new l h =
    search (rules, h.2, h.1.taken, h.1.put, TakesMessage-answered, h.1, h.0, l.answered, l.received, l.last)
IsLawful-happens (Put_answer answer) old new l h =
    let answered = rw h.1.was_held at l.answered in
    let received = prefix_more old.front.received old.back.put (answer ∷ []) l.received in
    search (rules, h.2, h.1.taken, h.1.held, h.1.put, append-nil, l.taken, l.last)
IsLawful-happens (Receive_answer answer) old new l h =
    search (rules, h.2, h.1.sent, h.1.received, h.0, l.answered, l.taken, l.last)

-- events one after another keep `IsLawful`
IsLawful-after : (events : List LaneEvent) (old new : Lane) → IsLawful old → Run old events new → IsLawful new
IsLawful-after [] old new l r = rw r l
IsLawful-after (event ∷ events) old new l r = IsLawful-after events r.0 new (IsLawful-happens event old r.0 l r.1) r.2

-- `IsLawful` holds after any events from a newly opened lane
pub IsLawful-run : (capacity : ℕ) (events : List LaneEvent) (lane : Lane) → Run (initial_lane capacity) events lane → IsLawful lane
IsLawful-run capacity events lane =
    IsLawful-after events (initial_lane capacity) lane
    (record { answered = tt; taken = ([], refl); received = ([], refl); last = refl })

-- putting the held answer, or holding it again, is a step
pub StepsBeforeFinish-put_held : (capacity : ℕ) (answer : Answer) (result : Step) (old new : BackLists) →
    old.held ≡ Some answer → new.taken ≡ old.taken → IsPutOrHeld capacity answer result old.put new.put new.held
    → StepsBeforeFinish capacity result old new
StepsBeforeFinish-put_held capacity answer Graded old new h t o = inl (answer, record { was_held = h; taken = t; held = o.1; put = o.0 })
StepsBeforeFinish-put_held capacity answer Waiting old new h t o = search rules
StepsBeforeFinish-put_held capacity answer result old new h t o = absurd o

-- taking a job and putting or holding its answer is a step
pub StepsBeforeFinish-put_taken : (capacity : ℕ) (job : Job) (answer : Answer) (result : Step) (old new : BackLists) →
    old.held ≡ None → new.taken ≡ old.taken ++ NewJob job ∷ [] → IsAnswerTo job answer
    → IsPutOrHeld capacity answer result old.put new.put new.held → StepsBeforeFinish capacity result old new
StepsBeforeFinish-put_taken capacity job answer Graded old new h t a o =
    inr (
      record { taken = new.taken; held = Some answer; put = old.put },
      (NewJob job, record { free = h; taken = t; held = a; put = refl }),
      (answer, record { was_held = refl; taken = refl; held = o.1; put = o.0 }),
    )
StepsBeforeFinish-put_taken capacity job answer Waiting old new h t a o =
    (inr (NewJob job, record { free = h; taken = t; held = rw o.1 a; put = o.0 }), grind arith, grind arith)
StepsBeforeFinish-put_taken capacity job answer result old new h t a o = absurd o

-- whether the new answer was put or is held, it is the last one
IsPutOrHeld-all : (capacity : ℕ) (answer : Answer) (result : Step) (old new : List Answer) (held : Option Answer) →
    IsPutOrHeld capacity answer result old new held → new ++ option_to_list held ≡ old ++ answer ∷ []
IsPutOrHeld-all capacity answer result old new held o = grind (arith, append-nil)

-- taking a job and putting or holding its answer keeps that the answers are those to the jobs taken
pub put_or_held_is_answered : (capacity : ℕ) (job : Job) (answer : Answer) (result : Step) (old new : BackLists) →
    old.held ≡ None → new.taken ≡ old.taken ++ NewJob job ∷ [] → IsAnswerTo job answer
    → IsPutOrHeld capacity answer result old.put new.put new.held → IsAnswered old → IsAnswered new
put_or_held_is_answered capacity job answer result old new free t a o all =
    rw (IsPutOrHeld-all capacity answer result old.put new.put new.held o)
    (TakesMessage-answered (NewJob job) old (record { taken = new.taken; held = Some answer; put = old.put })
    (record { free = free; taken = t; held = a; put = refl }) all)
