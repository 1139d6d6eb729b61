-- `deal_out`: the next job is appended to the queue whose turn it is.
use Rattle.std.proofs.Common.{◌≡◌, ◌++◌, [], map, get_or, sym, ◌∙◌, subst, arith}
use Rattle.std.specs.Vec.Iter.{into_iter_items}
use Rattle.survey_core.specs.steps.Dealt.{dealt_from, dealt}
use Rattle.survey_core.proofs.DealtLemmas.{deal_next}
use Rattle.survey_core.proofs.job_order.deal_out.Goals as goal

pub loop-place-preserved : goal.loop-place-preserved
loop-place-preserved c =
    let front = c.in-Some.ensures.cases.0 in
    let fewer = c.in-Some.ensures.cases.1 in
    let before = c.loop-place.invariant.left in
    record {
      lanes = c.loop-place.invariant.lanes;
      left = omega arith;
      dealt = deal_next (λ q. q.items) c.loop-place.queues.items c.args.lanes c.loop-place.place c.index_mut-queue.result.now
          c.push_back.new.self c.in-Some.job (into_iter_items c.next.new.self) c.args.jobs.items
          c.requires.some (sym c.loop-place.queues.ok.0 ∙ c.loop-place.invariant.lanes) c.index_mut-queue.ensures.value
          c.in_ok-push_back.ensures.items
          (λ k h. subst (λ js. get_or (map (λ q. q.items) c.loop-place.queues.items) k [] ++
          dealt_from c.loop-place.place js c.args.lanes k ≡ dealt c.args.jobs.items c.args.lanes k) front
          (c.loop-place.invariant.dealt k h));
    }
