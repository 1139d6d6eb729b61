-- `survey_entries`: the survey in the form of text is the text of the survey.
use Rattle.std.proofs.Common.{map}
use Rattle.puzzle_text.specs.Shown.{shown_entry}
use Rattle.survey_text.proofs.FormLemmas.{survey_of_entries-text}
use Rattle.survey_core.specs.GuessSettings.{guess_settings}
use Rattle.survey_core.proofs.surveys.survey_entries.Goals as goal

pub returns-clause-answer : goal.returns-clause-answer
returns-clause-answer g c =
    rw (survey_of_entries-text (guess_settings c.args.settings.now) c.args.settings.now.show (map shown_entry c.args.entries.now)) at
    c.survey_entries_as.ensures.answer
