-- A lemma on the form of text: what its survey leaves in a writer.
use Rattle.std.proofs.Common.{ℕ, Bool, List, Option, None, Some, Result}
use Rattle.std.specs.Prelude.{IfSome}
use Rattle.survey_text.proofs.FormLemmas.{survey-text}
use Rattle.survey_text.specs.Forms.{text_form}
use Rattle.survey_text.specs.FormSurveys.{survey_in}
use Rattle.survey_text.specs.Survey.{GuessSettings, survey_of}
use Rattle.survey_core.specs.Leaving.{Leaves}
use Rattle.survey_core.specs.declared.faults.RunFault.{RunFault}

-- what the survey of an input in the form of text leaves is what the text of its survey does
pub leaves_text : (guesses : GuessSettings) (show : Bool) (input : Option (List ℕ)) (result : Result (Unit {0}) RunFault)
    (old new : Option (List ℕ))
    → IfSome input (λ bytes. Leaves (survey_in (text_form show) guesses bytes) result old new)
    → IfSome input (λ bytes. Leaves (survey_of guesses show bytes) result old new)
leaves_text guesses show None result old new left = left
leaves_text guesses show (Some bytes) result old new left = rw (survey-text guesses show bytes) at left
