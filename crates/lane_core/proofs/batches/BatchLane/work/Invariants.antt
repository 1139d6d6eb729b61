-- The loop of `BatchLane::work`: its invariant is that the lane and its front stay, and its measure is the work left.
use Rattle.lane_core.proofs.Names.{◌≡◌, Works, work_left}
use Rattle.lane_core.specs.Batch.{batch_front, batch_back, batch_capacity, SameEnds}
use Rattle.lane_core.proofs.batches.BatchLane.work.Given as goal

abbrev pub invariant-grading : goal.invariant-grading
invariant-grading g l = record {
  lane : SameEnds l.fn.self l.self;
  front : batch_front l.self ≡ batch_front l.fn.self;
  worked : Works (batch_capacity l.fn.self) (batch_back l.fn.self) (batch_back l.self);
}

abbrev pub decreases-grading : goal.decreases-grading
decreases-grading g l = work_left (batch_front l.self) (batch_back l.self)
