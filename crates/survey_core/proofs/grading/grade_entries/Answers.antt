-- `grade_entries`: the results are those of the entries.
use Rattle.survey_core.proofs.ParsingLemmas.{results_are}
use Rattle.survey_core.proofs.grading.grade_entries.Goals as goal

pub returns : goal.returns
returns g c =
    rw (c.in_ok-results_of.ensures, c.deref.ensures.value, c.in_ok-faults.ensures.faults) (results_are _ _ _ c.in_ok-faults.ensures.answers)
