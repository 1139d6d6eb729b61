-- How a survey guesses, by its settings.
use Rattle.survey_text.specs.Survey.{GuessSettings}
use Rattle.survey_core.specs.declared.settings.Settings.{Settings}

-- the limit on guesses and the pick of `settings`
abbrev pub guess_settings : Settings → GuessSettings
guess_settings settings = record { limit = settings.guesses; pick = settings.pick }
