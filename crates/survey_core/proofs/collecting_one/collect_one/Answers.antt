-- `collect_one`: one more job is graded, and its answer is appended to those to the jobs before it.
use Rattle.std.proofs.Common.{◌++◌, ◌∷◌, [], append_assoc, arith}
use Rattle.lane_core.proofs.AnswersLemmas.{AreAnswersTo-push}
use Rattle.survey_core.proofs.collecting_one.collect_one.Goals as goal

pub grading-preserved : goal.grading-preserved
grading-preserved c =
    let before = c.grading.invariant.answered in
    record {
      answered = (
        before.0 ++ c.in-Some.job ∷ [],
        rw append_assoc (rw c.in-Some.ensures.items at before.1),
        rw c.push_reserved.ensures.items
            (AreAnswersTo-push before.0 c.grading.answers.items c.in-Some.job c.grade_by.result before.2 c.grade_by.ensures),
      );
      capacity =
          omega
          (arith, c.grading.invariant.capacity, c.in-Some.ensures.cases, c.push_reserved.ensures.len, c.push_reserved.ensures.capacity);
    }
