-- Lemmas on a collector's turn at a lane: what its loops keep, and how its three parts make up a turn.
use Rattle.lane_core.proofs.Names.{Finish, rules, ◌≡◌, ◌⊎◌, inl, inr, ℕ, List, [], ◌∷◌, ◌++◌, length, ◌∙◌, append_assoc, length-append, arith, IsPrefix, jobs_of, has_finish, FrontLists, PutsMessage, MayRefuse, Deals, Grows, Job, Answer, Message, NewJob}
use Rattle.lane_core.specs.steps.Dealing.{Sends, SendsFinish, Takes}
use Rattle.lane_core.proofs.MessagesLemmas.{jobs_of-append, jobs_of-push_finish, has_finish-push_new_job, has_finish-push_finish}
use Rattle.lane_core.proofs.LaneLemmas.{prefix_more}

-- sending jobs from `waiting` has led from `old` to `now`, and the jobs `left` are not yet sent
pub record SentSoFar (old now : FrontLists) (waiting left : List Job) : Type 0 where
  pub jobs : jobs_of now.sent ++ left ≡ jobs_of old.sent ++ waiting
  pub sent : IsPrefix old.sent now.sent
  pub received : now.received ≡ old.received
  pub finish : has_finish now.sent ≡ has_finish old.sent

-- once the first job that is left is sent too, the same holds of the others, and something was sent
pub SentSoFar-more : (old now new : FrontLists) (waiting all left : List Job) (job : Job) →
    SentSoFar old now waiting all → all ≡ job ∷ left → PutsMessage (NewJob job) now new
    → SentSoFar old new waiting left × Grows old new
SentSoFar-more old now new waiting all left job s e p =
    let sent = prefix_more old.sent now.sent (NewJob job ∷ []) s.sent in (
      search (rules, p.sent, p.received, jobs_of-append, append_assoc, rw e at s.jobs, s.received, has_finish-push_new_job, s.finish),
      rw (p.sent, p.received, s.received, ← s.sent.1) (omega (arith, length-append {A = Message})),
    )

-- taking answers has led from `old` to `now`, and appended `count` answers to `got`, which is now `held`
pub record TakenSoFar (old now : FrontLists) (got held : List Answer) (count : ℕ) : Type 0 where
  pub sent : now.sent ≡ old.sent
  pub answers : (fresh : List Answer) × (now.received ≡ old.received ++ fresh) × (held ≡ got ++ fresh) × (length fresh ≡ count)

-- a lane may refuse messages if it refused a job, or the finish once no job was left
refused_or_asked : (capacity : ℕ) (front : FrontLists) (left : List Job) → (left ≡ []) ⊎ MayRefuse capacity front
    → ((left ≡ []) → MayRefuse capacity front) → MayRefuse capacity front
refused_or_asked capacity front left (inl none) asks = asks none
refused_or_asked capacity front left (inr may) asks = may

-- the three parts of a turn, one after another, do what a call of `deal` does
pub Deals-made : (capacity capacity' : ℕ) (old mid asked new : FrontLists) (waiting left : List Job) (got got' : List Answer) →
    capacity' ≡ capacity → Sends capacity old mid waiting left → SendsFinish capacity' mid asked left → Takes asked new got got'
    → Deals capacity old new waiting left got got'
Deals-made capacity capacity' old mid asked new waiting left got got' same s (inl a) t =
    let sent = t.sent ∙ a.1.sent in
    let r = t.answers.1 in
    let more = prefix_more old.sent mid.sent (Finish ∷ []) s.sent in
    let received = rw (a.1.received, s.received) at r.received in
    search (rules, sent, jobs_of-push_finish, has_finish-push_finish, s.jobs, a.0, r, t.answers)
Deals-made capacity capacity' old mid asked new waiting left got got' same s (inr a) t =
    let sent = rw a.0 at t.sent in
    let r = t.answers.1 in
    let asks = refused_or_asked capacity mid left s.refused (λ none. rw (same, a.0) at (a.1 none)) in
    let received = rw (a.0, s.received) at r.received in
    search (rules, sent, s.jobs, s.sent, s.finish, r, t.answers)
