-- `grade_next`: the step is one of the lane as it was before `has_work` looked at both ends of the ring.
use Rattle.lane_core.proofs.Names.{refl, front_lists, back_lists, back_capacity}
use Rattle.lane_core.proofs.WorkLemmas.{graded_more, work_last}
use Rattle.lane_core.proofs.batches.grade_next.Goals as goal

pub returns-in-Graded-clause-more : goal.returns-in-Graded-clause-more
returns-in-Graded-clause-more g c = λ _.
    graded_more (back_capacity c.args.back.now) (front_lists c.args.front.now)
    (back_lists c.args.back.now) (back_lists c.has_work.new.back) _ _
    c.has_work.ensures.back.1 c.in-Graded.ensures.lists c.has_work.ensures.waiting (c.if-not-has_work.ensures.some refl)

pub returns-in_default-clause-last : goal.returns-in_default-clause-last
returns-in_default-clause-last g c = λ _.
    work_last (back_capacity c.args.back.now) _ c.step.result (front_lists c.args.front.now) (back_lists c.args.back.now)
    (back_lists c.has_work.new.back) _ _
    c.has_work.ensures.back.0.answers.1 c.has_work.ensures.back.1 c.step.ensures.lists c.has_work.ensures.waiting c.step.ensures.idle
    c.step.ensures.done c.in_default.not-Graded
