-- The invariant of the loop of `settle_all`: the jobs of the lanes settled are answered, and the answers of the others fit into the list.
use Rattle.std.proofs.Common.{◌≡◌, ◌+◌, ◌≤◌, ◌++◌, map, vec_len, vec_capacity, List}
use Rattle.std.specs.VecDeque.{deque_len}
use Rattle.lane_core.specs.declared.jobs.Job.{Job}
use Rattle.survey_core.specs.steps.Collected.{dealt_jobs, EachAnswered}
use Rattle.survey_core.proofs.collecting.settle_all.Given as goal

abbrev pub invariant-settling : goal.invariant-settling
invariant-settling g l = record {
  answered : (before : List (List Job)) × (before ++ dealt_jobs l.lanes.items ≡ dealt_jobs l.fn.lanes.items) ×
      EachAnswered before (map (λ q. q.items) l.settled.items);
  capacity : vec_len l.settled + deque_len l.lanes ≤ vec_capacity l.settled;
}
