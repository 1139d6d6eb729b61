-- `survey_text`: the answers are those to the puzzles that were read, so the chunks printed are those of all entries.
use Rattle.std.proofs.Common.{◌∙◌}
use Rattle.survey_core.proofs.ParsingLemmas.{all_answered}
use Rattle.survey_core.proofs.grading.survey_text.Goals as goal

pub returns : goal.returns
returns g c =
    c.in_ok-finish.ensures _
    (c.in_ok-run_chunked.ensures
    (all_answered _ _ _ c.args.entries.now c.requires (c.deref.ensures.value ∙ c.in_ok-graded.ensures.faults)
    (rw (← c.deref-2.ensures.value) at c.in_ok-graded.ensures.answers)))
