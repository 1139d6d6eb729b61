-- The invariant of the loop of `run_worker`: `back` is the back of the same lane.
use Rattle.lane_core.specs.Ends.{SameBack}
use Rattle.survey_core.proofs.workers.run_worker.Given as goal

abbrev pub invariant-loop : goal.invariant-loop
invariant-loop g l = SameBack l.fn.back l.back
