-- Lemmas on a lane of which both ends are known: its answers, and when it is drained.
use Rattle.lane_core.proofs.Names.{arith, ◌≡◌, true, ◌++◌, length, take, refl, append_assoc, append-nil, nil_from_length, Option, None, option_to_list, is_none, IsPrefix, jobs_of, has_finish, finish_is_last, AreAnswersTo, FrontLists, BackLists, IsAnswered, IsDrained, Answer}
use Rattle.lane_core.proofs.MessagesLemmas.{jobs_of-append, nothing_follows}
use Rattle.lane_core.proofs.AnswersLemmas.{AreAnswersTo-front}
use Rattle.lane_core.proofs.LaneLemmas.{IsLawful-run}

-- the answers received are those to the first jobs sent
pub first_are_answered : (front : FrontLists) (back : BackLists) → IsPrefix back.taken front.sent → IsPrefix front.received back.put →
    IsAnswered back → AreAnswersTo (take (length front.received) (jobs_of front.sent)) front.received
first_are_answered front back m a h =
    rw (← m.1, jobs_of-append)
    (AreAnswersTo-front (jobs_of back.taken) (jobs_of m.0) front.received (a.0 ++ option_to_list back.held) (rw (← a.1, append_assoc) at h))

-- an option without a value is `None`
none_of : (held : Option Answer) → is_none held ≡ true → held ≡ None
none_of held h = grind arith

-- a lane is drained if its finish was taken and no answer is in its ring: then no message follows, and none is held
pub finished_is_drained : (front : FrontLists) (back : BackLists) (m : IsPrefix back.taken front.sent)
    (a : IsPrefix front.received back.put) → length a.0 ≡ 0 → finish_is_last front.sent ≡ true → has_finish back.taken ≡ true
    → is_none back.held ≡ true → IsDrained front back
finished_is_drained front back m a empty last finished free = record {
  taken = rw (← m.1, nothing_follows back.taken m.0 (rw m.1 last) finished, append-nil) refl;
  held = none_of back.held free;
  received = rw (← a.1, nil_from_length a.0 empty, append-nil) refl;
}

-- the answers that a drained lane received are those to the jobs sent
pub drained_answers : (front : FrontLists) (back : BackLists) → IsDrained front back → IsAnswered back →
    AreAnswersTo (jobs_of front.sent) front.received
drained_answers front back d h = rw (← d.taken, d.received) (rw (d.held, append-nil) at h)

pub ruleset lawful = (IsLawful-run, first_are_answered, drained_answers)
