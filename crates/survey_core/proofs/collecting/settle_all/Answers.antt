-- `settle_all`: one more lane is settled, and its answers are those to the jobs dealt to it.
use Rattle.std.proofs.Common.{◌++◌, ◌∷◌, [], map, append_assoc, append-nil, sym, subst, ◌∙◌, ap, arith}
use Rattle.std.proofs.lemmas.List.{map_push, nil_from_length}
use Rattle.survey_core.specs.steps.Collected.{dealt_jobs, EachAnswered}
use Rattle.survey_core.proofs.CollectedLemmas.{EachAnswered-push}
use Rattle.survey_core.proofs.collecting.settle_all.Goals as goal

pub returns-in_default : goal.returns-in_default
returns-in_default g c =
    let before = c.settling.invariant.answered in
    let none = nil_from_length c.settling.lanes.items (omega (arith, c.in_default.ensures.cases, c.settling.lanes.ok.0)) in
    subst (λ jss. EachAnswered jss (map (λ q. q.items) c.settling.settled.items))
    (sym (append-nil before.0) ∙ ap (λ ls. before.0 ++ dealt_jobs ls) (sym none) ∙ before.1) before.2

pub settling-preserved-in-Ok : goal.settling-preserved-in-Ok
settling-preserved-in-Ok g c =
    let before = c.settling.invariant.answered in
    let own = c.in-Some-pop_front.lane.dealt.value.items in
    record {
      answered = (
        before.0 ++ own ∷ [],
        rw append_assoc (rw c.in-Some-pop_front.ensures.items at before.1),
        rw (c.push_reserved.ensures.items, map_push (λ q. q.items) c.settling.settled.items c.in-Ok.answers)
            (EachAnswered-push before.0 (map (λ q. q.items) c.settling.settled.items) own c.in-Ok.answers.items before.2 c.in-Ok.ensures),
      );
      capacity =
          omega
          (arith, c.settling.invariant.capacity, c.in-Some-pop_front.ensures.cases, c.push_reserved.ensures.len, c.push_reserved.ensures.capacity);
    }
