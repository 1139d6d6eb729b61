-- The invariant of the loop of `no_jobs`: the list has as many queues as turns were taken, all empty.
use Rattle.std.proofs.Common.{◌≡◌, vec_len, map, replicate, []}
use Rattle.survey_core.proofs.job_order.no_jobs.Given as goal

abbrev pub invariant-loop : goal.invariant-loop
invariant-loop l = (vec_len l.queues ≡ l.counter) × (map (λ q. q.items) l.queues.items ≡ replicate l.counter [])
