-- `interleave`: the queue whose turn it is has the answer to the next job at its front, and that is appended.
use Rattle.std.proofs.Common.{◌<◌, ◌+◌, take, sym, ap, ◌∙◌, subst}
use Rattle.std.proofs.lemmas.List.{nil_from_length}
use Rattle.lane_core.specs.Answers.{AreAnswersTo}
use Rattle.survey_core.proofs.DealtLemmas.{interleave_some, interleave_next}
use Rattle.survey_core.proofs.job_order.interleave.Goals as goal

pub unreachable-requires : goal.unreachable-requires
unreachable-requires c =
    interleave_some (λ q. q.items) c.loop-place.queues.items c.args.lanes c.loop-place.place c.index_mut-queue.result.now
    c.args.jobs.now.value.items
    c.requires.some (sym c.loop-place.queues.ok.0 ∙ c.loop-place.invariant.lanes)
    (subst (λ m. c.loop-place.place < m) c.requires.count c.loop-place-test.true) c.index_mut-queue.ensures.value
    c.loop-place.invariant.left
    (nil_from_length _ (sym c.index_mut-queue.result.now.ok.0 ∙ c.in_default.ensures.cases.0))

pub loop-place-preserved : goal.loop-place-preserved
loop-place-preserved c =
    let both = interleave_next (λ q. q.items) c.loop-place.queues.items c.args.lanes c.loop-place.place c.index_mut-queue.result.now
    c.pop_front.new.self c.args.jobs.now.value.items c.in-Some.answer c.loop-place.interleaved.items
    c.requires.some (sym c.loop-place.queues.ok.0 ∙ c.loop-place.invariant.lanes)
    (subst (λ m. c.loop-place.place < m) c.requires.count c.loop-place-test.true) c.index_mut-queue.ensures.value
    c.in-Some.ensures.items c.loop-place.invariant.interleaved c.loop-place.invariant.left in
    record {
      lanes = c.loop-place.invariant.lanes;
      capacity = c.push_reserved.ensures.capacity ∙ c.loop-place.invariant.capacity;
      count = c.push_reserved.ensures.len ∙ ap (λ n. n + 1) c.loop-place.invariant.count;
      interleaved = subst (λ l. AreAnswersTo (take (c.loop-place.place + 1) c.args.jobs.now.value.items) l)
          (sym c.push_reserved.ensures.items) both.0;
      left = both.1;
    }
