-- The invariant of the loop of `interleave`: the first jobs are answered, and each queue has the answers to its share of the others.
use Rattle.std.proofs.Common.{◌≡◌, ◌<◌, ℕ, vec_len, vec_capacity, map, get_or, take, drop, []}
use Rattle.lane_core.specs.Answers.{AreAnswersTo}
use Rattle.survey_core.specs.steps.Dealt.{dealt_from}
use Rattle.survey_core.proofs.job_order.interleave.Given as goal

abbrev pub invariant-loop-place : goal.invariant-loop-place
invariant-loop-place l = record {
  lanes : vec_len l.queues ≡ l.lanes;
  capacity : vec_capacity l.interleaved ≡ vec_capacity l.fn.interleaved;
  count : vec_len l.interleaved ≡ l.place;
  interleaved : AreAnswersTo (take l.place l.jobs.value.items) l.interleaved.items;
  left : (k : ℕ) → k < l.lanes → AreAnswersTo (dealt_from l.place (drop l.place l.jobs.value.items) l.lanes k)
      (get_or (map (λ q. q.items) l.queues.items) k []);
}
