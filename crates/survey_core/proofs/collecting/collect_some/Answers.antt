-- `collect_some`: there is a queue of answers for each lane, and it has the answers to the jobs dealt to the lane.
use Rattle.std.proofs.Common.{sym, ap, ◌∙◌, subst, length, get_or, List, [], map, arith}
use Rattle.std.proofs.lemmas.List.{length-map}
use Rattle.lane_core.specs.Answers.{AreAnswersTo}
use Rattle.lane_core.specs.declared.jobs.Job.{Job}
use Rattle.survey_core.specs.steps.Dealt.{dealt}
use Rattle.survey_core.proofs.CollectedLemmas.{EachAnswered-at, EachAnswered-length}
use Rattle.survey_core.proofs.collecting.collect_some.Goals as goal

pub interleave-requires-clause-lanes : goal.interleave-requires-clause-lanes
interleave-requires-clause-lanes g c =
    omega (
      arith,
      EachAnswered-length _ _ c.settle_all-queues.ensures,
      ap length (c.in_ok-complete.ensures.jobs ∙ c.in_ok-opened.ensures.jobs),
      length-map c.settle_all-queues.result.items (λ q. q.items),
      length-map c.in_ok-deal_out.field-0.items (λ q. q.items),
      c.settle_all-queues.result.ok.0,
      c.in_ok-deal_out.field-0.ok.0,
      c.in_ok-deal_out.ensures.lanes,
    )

pub interleave-requires-clause-answered : goal.interleave-requires-clause-answered
interleave-requires-clause-answered g c = λ k within.
    let same = c.in_ok-complete.ensures.jobs ∙ c.in_ok-opened.ensures.jobs in
    subst (λ (js : List Job). AreAnswersTo js (get_or (map (λ q. q.items) c.settle_all-queues.result.items) k []))
    (ap (λ l. get_or l k []) same ∙ c.in_ok-deal_out.ensures.dealt k within
    ∙ ap (λ v. dealt v.items c.args.lanes k) (sym c.of-all.ensures))
    (EachAnswered-at _ _ k c.settle_all-queues.ensures
    (omega (
      arith,
      within,
      ap length same,
      length-map c.in_ok-deal_out.field-0.items (λ q. q.items),
      c.in_ok-deal_out.field-0.ok.0,
      c.in_ok-deal_out.ensures.lanes,
    )))
