-- The invariant of the loop of `deal_out`: the queue of a lane, followed by its share of the jobs left, is what it is dealt in all.
use Rattle.std.proofs.Common.{◌≡◌, ◌+◌, ◌<◌, ◌++◌, ℕ, vec_len, map, get_or, []}
use Rattle.std.specs.Vec.Iter.{into_iter_items, into_iter_len}
use Rattle.survey_core.specs.steps.Dealt.{dealt_from, dealt}
use Rattle.survey_core.proofs.job_order.deal_out.Given as goal

abbrev pub invariant-loop-place : goal.invariant-loop-place
invariant-loop-place l = record {
  lanes : vec_len l.queues ≡ l.lanes;
  left : into_iter_len l.jobs + l.place ≡ l.count;
  dealt : (k : ℕ) → k < l.lanes → get_or (map (λ q. q.items) l.queues.items) k [] ++
      dealt_from l.place (into_iter_items l.jobs) l.lanes k ≡ dealt l.fn.jobs.items l.lanes k;
}
