-- `send_waiting`: each turn of the loop sends the job at the front.
use Rattle.std.proofs.Common.{rules}
use Rattle.lane_core.proofs.DealingLemmas.{SentSoFar-more}
use Rattle.lane_core.proofs.dealing.send_waiting.Goals as goal

pub loop-job-preserved : goal.loop-job-preserved
loop-job-preserved g c =
    let more = SentSoFar-more _ _ _ _ _ _ c.in-Some.job c.loop-job.invariant.so_far c.in-Some.ensures.items c.in-Ok.ensures.ok in
    search (rules, more, g.met.L.Lane.same_lane_trans)
