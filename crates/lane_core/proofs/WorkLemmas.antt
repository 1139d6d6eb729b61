-- Lemmas on the work of a batch lane: that it ends, and what its steps do together.
use Rattle.lane_core.proofs.Names.{◌≡◌, ◌≢◌, ◌<◌, ◌↔◌, inl, inr, ℕ, List, [], ◌∷◌, ◌++◌, length, refl, length-append, arith, append-nil, nil_from_length, None, FrontLists, BackLists, IsFinished, Steps, StepRun, Works, IsWorkDone, work_left, Message, Step, Idle, Graded, Done}

-- a step that puts an answer leaves less work
graded_less : (capacity : ℕ) (front : FrontLists) (old new : BackLists) (known : List Message) →
    Steps capacity Graded old new → old.taken ++ known ≡ front.sent → (old.held ≡ None → 0 < length known)
    → work_left front new < work_left front old
graded_less capacity front old new known (inl f) fifo waits = grind arith
graded_less capacity front old new known (inr (_, inl p)) fifo waits = grind arith
graded_less capacity front old new known (inr (_, inr t)) fifo waits = grind (arith, length-append {A = Message}, waits t.1.1.free)

-- a step that puts an answer, taken after `has_work` changed only what the ends see, is a step of the lane before,
-- and leaves less work
pub graded_more : (capacity : ℕ) (front : FrontLists) (old old' new : BackLists) (known : List Message) →
    old' ≡ old → Steps capacity Graded old' new → old.taken ++ known ≡ front.sent → (old.held ≡ None → 0 < length known) →
    Steps capacity Graded old new × (work_left front new < work_left front old)
graded_more capacity front old old' new known same s fifo waits =
    let step = rw same at s in (step, graded_less capacity front old new known step fifo waits)

-- after a step that puts no answer the work is done
work_ends : (capacity : ℕ) (result : Step) (front : FrontLists) (old new : BackLists) (known : List Message) →
    Steps capacity result old new → old.taken ++ known ≡ front.sent → (result ≡ Idle → length known ≡ 0)
    → ((result ≡ Done) ↔ IsFinished new) → result ≢ Graded →
    IsWorkDone capacity front new
work_ends capacity result front old new known (inl f) fifo idle done other = inl (done.0 f.1)
work_ends capacity Idle front old new known (inr s) fifo idle done other = grind (arith, nil_from_length, append-nil)
work_ends capacity result front old new known (inr s) fifo idle done other = grind arith

-- one step alone is work
pub Works-one : (capacity : ℕ) (result : Step) (old new : BackLists) → Steps capacity result old new → Works capacity old new
Works-one capacity result old new s = (result ∷ [], (new, s, refl))

-- the last step, taken after `has_work` changed only what the ends see, ends the work of the lane before
pub work_last : (capacity capacity' : ℕ) (result : Step) (front : FrontLists) (old old' new : BackLists) (known : List Message) →
    capacity' ≡ capacity → old' ≡ old → Steps capacity' result old' new → old.taken ++ known ≡ front.sent →
    (result ≡ Idle → length known ≡ 0) → ((result ≡ Done) ↔ IsFinished new) → result ≢ Graded →
    Works capacity old new × IsWorkDone capacity front new
work_last capacity capacity' result front old old' new known same_capacity same s fifo idle done other =
    let step = rw (same_capacity, same) at s in
    (Works-one capacity result old new step, work_ends capacity result front old new known step fifo idle done other)

-- steps that follow other steps
StepRun-append : (capacity : ℕ) (steps more : List Step) (old mid new : BackLists) → StepRun capacity steps old mid
    → StepRun capacity more mid new → StepRun capacity (steps ++ more) old new
StepRun-append capacity [] more old mid new r s = rw (← r) s
StepRun-append capacity (step ∷ steps) more old mid new r s = (r.0, r.1, StepRun-append capacity steps more r.0 mid new r.2 s)

-- work that follows other work, where the capacity is known by another name
pub Works-more : (capacity capacity' : ℕ) (old mid new : BackLists) → capacity' ≡ capacity → Works capacity old mid
    → Works capacity' mid new → Works capacity old new
Works-more capacity capacity' old mid new same_capacity r s =
    (r.0 ++ s.0, StepRun-append capacity r.0 s.0 old mid new r.1 (rw same_capacity at s.1))
