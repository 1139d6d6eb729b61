-- The worker's end of a lane, here or away in a thread.
use Rattle.lane_core.specs.declared.backs.LaneBack.{LaneBack}
use Rattle.survey_core.specs.declared.workers.WorkerEnd.{WorkerEnd}
use Rattle.survey_core.specs.declared.workers.WorkerEnd.TheVariants.{Here, Away}

-- the end that is here, or else the end that was dealt to the worker
abbrev pub dealt_back : WorkerEnd → LaneBack
dealt_back (Here back) = back
dealt_back (Away worker) = worker.promise.0.value
