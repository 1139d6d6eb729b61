-- `run_survey`: the survey in the form of text is the text of the survey.
use Rattle.survey_core.proofs.FormLemmas.{leaves_text}
use Rattle.survey_core.specs.GuessSettings.{guess_settings}
use Rattle.survey_core.proofs.surveys.run_survey.Goals as goal

pub returns-clause-answer : goal.returns-clause-answer
returns-clause-answer g c =
    leaves_text (guess_settings c.args.settings.now) c.args.settings.now.show _ _ _ _ c.run_survey_as.ensures.answer
