-- The loop of `results_of`: the results so far, followed by those of the faults and answers left, are all.
use Rattle.std.proofs.Common.{◌≡◌, ◌++◌, length}
use Rattle.std.specs.Vec.Iter.{into_iter_items}
use Rattle.survey_core.specs.steps.Graded.{results_of}
use Rattle.survey_core.proofs.grading.results_of.Given as goal

abbrev pub invariant-loop-rest : goal.invariant-loop-rest
invariant-loop-rest l =
    l.results.items ++ results_of l.rest (into_iter_items l.answers) ≡ results_of l.faults l.fn.answers.items

abbrev pub decreases-loop-rest : goal.decreases-loop-rest
decreases-loop-rest l = length l.rest
