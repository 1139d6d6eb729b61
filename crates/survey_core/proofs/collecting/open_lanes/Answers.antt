-- `open_lanes`: no lane is open before the first queue, and none is left to open after the last one.
use Rattle.std.proofs.Common.{◌∙◌, append-nil, ap, arith, length, refl, sym}
use Rattle.std.proofs.lemmas.List.{nil_from_length}
use Rattle.std.specs.Vec.Iter.{into_iter_items}
use Rattle.survey_core.specs.steps.Collected.{dealt_jobs}
use Rattle.survey_core.proofs.collecting.open_lanes.Goals as goal

pub loop-waiting-init : goal.loop-waiting-init
loop-waiting-init c =
    let given = c.into_iter-waiting-iterator.ensures.into_iter_gives in
    record {
      jobs = rw (c.in_ok-lanes.ensures.items, given.0) refl;
      len = omega (arith, given.1, c.in_ok-lanes.ensures.len);
      left = omega (arith, given.1, ap length given.0, c.args.queues.ok.0);
    }

pub returns-clause-jobs : goal.returns-clause-jobs
returns-clause-jobs c =
    let kept = c.loop-waiting.invariant in
    let none = nil_from_length (into_iter_items c.loop-waiting.waiting-iterator) (sym kept.left ∙ c.in-None.ensures.steps.0) in
    sym (append-nil (dealt_jobs c.loop-waiting.lanes.items)) ∙ (rw none at kept.jobs)
