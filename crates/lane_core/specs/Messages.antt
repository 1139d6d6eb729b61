-- The jobs and the finish in a list of messages.
use Rattle.std.specs.Prelude.{Bool, true, false, List, [], ◌∷◌}
use Rattle.lane_core.specs.declared.jobs.Job.{Job}
use Rattle.lane_core.specs.declared.messages.Message.{Message}
use Rattle.lane_core.specs.declared.messages.Message.TheVariants.{NewJob, Finish}

-- the jobs among the messages, in order
abbrev pub jobs_of : List Message → List Job
jobs_of [] = []
jobs_of (NewJob job ∷ rest) = job ∷ jobs_of rest
jobs_of (Finish ∷ rest) = jobs_of rest

-- whether the finish is among the messages
abbrev pub has_finish : List Message → Bool
has_finish [] = false
has_finish (NewJob job ∷ rest) = has_finish rest
has_finish (Finish ∷ rest) = true

-- whether no message follows the finish, if there is one
abbrev pub finish_is_last : List Message → Bool
finish_is_last [] = true
finish_is_last (NewJob job ∷ rest) = finish_is_last rest
finish_is_last (Finish ∷ []) = true
finish_is_last (Finish ∷ (next ∷ rest)) = false
