-- The invariant of the loop of `open_lanes`: a lane was opened for each queue taken so far, with the jobs of that queue.
use Rattle.std.proofs.Common.{◌≡◌, ◌+◌, ◌++◌, length, map, vec_len}
use Rattle.std.specs.Vec.Iter.{into_iter_items, into_iter_len}
use Rattle.std.specs.VecDeque.{deque_len}
use Rattle.survey_core.specs.steps.Collected.{dealt_jobs}
use Rattle.survey_core.proofs.collecting.open_lanes.Given as goal

abbrev pub invariant-loop-waiting : goal.invariant-loop-waiting
invariant-loop-waiting l = record {
  jobs : dealt_jobs l.lanes.items ++ map (λ q. q.items) (into_iter_items l.waiting-iterator) ≡ map (λ q. q.items) l.fn.queues.items;
  len : deque_len l.lanes + into_iter_len l.waiting-iterator ≡ vec_len l.fn.queues;
  left : into_iter_len l.waiting-iterator ≡ length (into_iter_items l.waiting-iterator);
}
