-- `BatchLane::work`: each turn of the loop adds a step that puts an answer, and the last call ends the work.
use Rattle.lane_core.proofs.Names.{refl, rules, Graded, back_capacity, SameFront-trans, SameBack-trans}
use Rattle.lane_core.proofs.WorkLemmas.{Works-more, Works-one}
use Rattle.lane_core.proofs.batches.BatchLane.work.Goals as goal

pub grading-preserved : goal.grading-preserved
grading-preserved g c = record {
  lane = search (rules, SameFront-trans, SameBack-trans);
  front = cc;
  worked =
      Works-more _ (back_capacity c.grading.self.back) _ _ _ (cc) c.grading.invariant.worked
      (Works-one _ Graded _ _ (c.grading-test.ensures.more refl).0);
}

pub returns-clause-worked : goal.returns-clause-worked
returns-clause-worked g c =
    Works-more _ (back_capacity c.grading.self.back) _ _ _ (cc) c.grading.invariant.worked (c.grading-test.ensures.last refl).0
