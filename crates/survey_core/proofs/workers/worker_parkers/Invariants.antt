-- The invariant of the loop of `worker_parkers`: the list has as many parkers as turns were taken.
use Rattle.std.proofs.Common.{◌≡◌, vec_len}
use Rattle.survey_core.proofs.workers.worker_parkers.Given as goal

abbrev pub invariant-loop : goal.invariant-loop
invariant-loop l = vec_len l.parkers ≡ l.counter
