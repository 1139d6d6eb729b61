-- `LaneBack::step`: the answers put and held stay those to the jobs taken, and the lists change as `Steps` allows.
use Rattle.lane_core.proofs.Names.{refl, inr, ∥∥₁_map, received, back_lists}
use Rattle.lane_core.proofs.LaneLemmas.{StepsBeforeFinish-put_held, StepsBeforeFinish-put_taken, put_or_held_is_answered}
use Rattle.lane_core.proofs.backs.LaneBack.step.Goals as goal

pub returns-in-Some-clause-lists : goal.returns-in-Some-clause-lists
returns-in-Some-clause-lists g c = inr (
  cc,
  StepsBeforeFinish-put_held _ c.in-Some.answer c.put_or_hold.result (back_lists c.args.self.now) _ (cc) refl
      c.put_or_hold.ensures.put_or_held,
)

pub invariant_of-self-in-NewJob-clause-answered : goal.invariant_of-self-in-NewJob-clause-answered
invariant_of-self-in-NewJob-clause-answered g c =
    ∥∥₁_map c.args.self.now.answered
    (put_or_held_is_answered _ c.in-NewJob.job c.grade_by-answer.result _ (back_lists c.args.self.now)
    (record { taken = received c.pop_known.new.self; held = _; put = _ }) (cc) (cc)
    c.grade_by-answer.ensures c.put_or_hold-in-NewJob.ensures.put_or_held)

pub returns-in-NewJob-clause-lists : goal.returns-in-NewJob-clause-lists
returns-in-NewJob-clause-lists g c = inr (
  cc,
  StepsBeforeFinish-put_taken _ c.in-NewJob.job c.grade_by-answer.result c.put_or_hold-in-NewJob.result (back_lists c.args.self.now) _
      (cc) (cc) c.grade_by-answer.ensures c.put_or_hold-in-NewJob.ensures.put_or_held,
)
