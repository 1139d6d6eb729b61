-- `settings_of`: each setting is its argument's value; clamping doesn't change a number in range.
use Rattle.std.proofs.Common.{lit<, sym}
use Rattle.clap.specs.Words.{found_of}
use Rattle.survey_core.specs.declared.settings.TheConstants.{MAX_RING, MAX_LANES}
use Rattle.command_line.proofs.WordLemmas.{kept_within, number_of_entry}
use Rattle.command_line.proofs.values.settings_of.Goals as goal

pub returns-clause-asked : goal.returns-clause-asked
returns-clause-asked c = record {
  lanes = number_of_entry 16 1 MAX_LANES _ (found_of c.args.matches.now) _ c.get_one.result c.get_one.ensures.value (lit< tt)
      (λ v given low high. kept_within c.clamp.result v 1 MAX_LANES 4 c.get_one.result
      (rw c.unwrap_or-lanes.ensures at c.clamp.ensures) given low high);
  ring = number_of_entry 16 1 MAX_RING _ (found_of c.args.matches.now) _ c.get_one-2.result c.get_one-2.ensures.value (lit< tt)
      (λ v given low high. kept_within c.clamp-2.result v 1 MAX_RING 8 c.get_one-2.result
      (rw c.unwrap_or-ring.ensures at c.clamp-2.ensures) given low high);
  guesses = c.guesses_of.ensures.asked;
  pick = sym c.in_ok-pick.ensures;
}
