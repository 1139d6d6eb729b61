-- Lemmas on the jobs and the finish in a list of messages, as messages are appended.
use Rattle.lane_core.proofs.Names.{arith, ◌≡◌, ◌∙◌, true, false, List, [], ◌∷◌, ◌++◌, refl, rules, append-nil, jobs_of, has_finish, finish_is_last, Job, Message, NewJob, Finish}

-- the jobs of two lists of messages are those of the first, followed by those of the second
pub jobs_of-append : (xs ys : List Message) → jobs_of (xs ++ ys) ≡ jobs_of xs ++ jobs_of ys
jobs_of-append [] ys = refl
jobs_of-append (message ∷ xs) ys = grind (arith, jobs_of-append xs ys)

-- a finish at the end adds no job
pub jobs_of-push_finish : (xs : List Message) → jobs_of (xs ++ Finish ∷ []) ≡ jobs_of xs
jobs_of-push_finish xs = jobs_of-append xs (Finish ∷ []) ∙ append-nil (jobs_of xs)

-- with a job at the end the finish is there exactly if it was before
pub has_finish-push_new_job : (xs : List Message) (job : Job) → has_finish (xs ++ NewJob job ∷ []) ≡ has_finish xs
has_finish-push_new_job [] job = refl
has_finish-push_new_job (message ∷ xs) job = grind (arith, has_finish-push_new_job xs job)

-- with the finish at the end it is there
pub has_finish-push_finish : (xs : List Message) → has_finish (xs ++ Finish ∷ []) ≡ true
has_finish-push_finish [] = refl
has_finish-push_finish (message ∷ xs) = grind (arith, has_finish-push_finish xs)

-- a list without the finish, with one message appended, has no message after the finish
pub finish_is_last-push : (xs : List Message) (message : Message) → has_finish xs ≡ false → finish_is_last (xs ++ message ∷ []) ≡ true
finish_is_last-push (NewJob job ∷ xs) message h = finish_is_last-push xs message h
finish_is_last-push xs message h = search rules

-- if the finish was taken, no message follows those taken
pub nothing_follows : (taken rest : List Message) → finish_is_last (taken ++ rest) ≡ true → has_finish taken ≡ true → rest ≡ []
nothing_follows (NewJob job ∷ taken) rest last finished = nothing_follows taken rest last finished
nothing_follows (Finish ∷ []) [] last finished = refl
nothing_follows taken rest last finished = cc

pub ruleset messages = (jobs_of-append, jobs_of-push_finish, has_finish-push_new_job, has_finish-push_finish, finish_is_last-push)
