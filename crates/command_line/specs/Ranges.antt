-- The ranges of the settings of a request.
use Rattle.std.specs.Prelude.{◌≤◌}
use Rattle.lane_core.specs.declared.jobs.TheConstants.{MAX_GUESSES}
use Rattle.survey_core.specs.declared.settings.Settings.{Settings}
use Rattle.survey_core.specs.declared.settings.TheConstants.{MAX_RING, MAX_LANES}
use Rattle.command_line.specs.declared.command.Request.{Request}
use Rattle.command_line.specs.declared.command.Request.TheVariants.{Survey, Check, Solve, Convert, Lines}

-- the settings of a survey or a check lie in their ranges
pub record IsInRange (settings : Settings) : Type 0 where
  pub lanes_least : 1 ≤ settings.lanes
  pub lanes_most : settings.lanes ≤ MAX_LANES
  pub ring_least : 1 ≤ settings.ring
  pub ring_most : settings.ring ≤ MAX_RING
  pub guesses_most : settings.guesses ≤ MAX_GUESSES

-- each setting of a request lies in its range
abbrev pub HasSettingsInRange : Request → Type 0
HasSettingsInRange (Survey survey) = IsInRange survey.settings
HasSettingsInRange (Check check) = IsInRange check.settings
HasSettingsInRange (Solve guesses _ _) = guesses ≤ MAX_GUESSES
HasSettingsInRange (Convert _ _) = Unit {0}
HasSettingsInRange (Lines _) = Unit {0}
