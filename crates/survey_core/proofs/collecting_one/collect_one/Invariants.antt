-- The invariant of the loop of `collect_one`: the jobs taken are answered, and the answers to the others fit into the list.
use Rattle.std.proofs.Common.{◌≡◌, ◌+◌, ◌≤◌, ◌++◌, List, vec_len, vec_capacity}
use Rattle.std.specs.VecDeque.{deque_len}
use Rattle.lane_core.specs.Answers.{AreAnswersTo}
use Rattle.lane_core.specs.declared.jobs.Job.{Job}
use Rattle.survey_core.proofs.collecting_one.collect_one.Given as goal

abbrev pub invariant-grading : goal.invariant-grading
invariant-grading l = record {
  answered : (done : List Job) × (done ++ l.jobs.items ≡ l.fn.jobs.items) × AreAnswersTo done l.answers.items;
  capacity : vec_len l.answers + deque_len l.jobs ≤ vec_capacity l.answers;
}

abbrev pub decreases-grading : goal.decreases-grading
decreases-grading l = deque_len l.jobs
