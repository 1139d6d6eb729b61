-- `start_all`: one more lane moves from the front of the queue to its end, and in the end all have.
use Rattle.std.proofs.Common.{◌≤◌, ◌++◌, length, take, append-nil, take_all, refl, sym, ap, ◌∙◌, arith}
use Rattle.std.proofs.lemmas.List.{drop_all, length-map, map_push}
use Rattle.survey_core.specs.steps.Collected.{dealt_jobs}
use Rattle.survey_core.proofs.DealtLemmas.{turned}
use Rattle.survey_core.proofs.collecting.start_all.Goals as goal

pub loop-init : goal.loop-init
loop-init g c = record { jobs = sym (append-nil _); len = refl }

pub loop-preserved : goal.loop-preserved
loop-preserved g c =
    let all = dealt_jobs c.args.lanes.items in
    let within = length-map c.args.lanes.items (λ lane. lane.dealt.value.items) in
    record {
      jobs = rw (c.push_back_reserved.ensures.items, map_push (λ lane. lane.dealt.value.items) c.pop_front.new.self.items c.in-Ok.started, c.in-Ok.ensures)
          (turned all c.loop.counter c.in-Some.lane.dealt.value.items (dealt_jobs c.pop_front.new.self.items)
          (omega (arith, within, c.args.lanes.ok.0, c.loop-test.true))
          (ap dealt_jobs (sym c.in-Some.ensures.items) ∙ c.loop.invariant.jobs));
      len = omega (arith, c.loop.invariant.len, c.in-Some.ensures.cases, c.push_back_reserved.ensures.len);
    }

pub returns-clause-jobs : goal.returns-clause-jobs
returns-clause-jobs g c =
    let all = dealt_jobs c.args.lanes.items in
    let within = length-map c.args.lanes.items (λ lane. lane.dealt.value.items) in
    let few : length all ≤ c.loop.counter = omega (arith, within, c.args.lanes.ok.0, c.loop-test.false) in
    c.loop.invariant.jobs ∙ ap (λ l. l ++ take c.loop.counter all) (drop_all c.loop.counter all few) ∙ take_all c.loop.counter all few
