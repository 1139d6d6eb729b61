-- `guesses_of`: clamping doesn't change a number within the limit.
use Rattle.std.proofs.Common.{lit<}
use Rattle.clap.specs.Words.{found_of}
use Rattle.lane_core.specs.declared.jobs.TheConstants.{MAX_GUESSES}
use Rattle.command_line.proofs.WordLemmas.{kept_below, number_of_entry}
use Rattle.command_line.proofs.values.guesses_of.Goals as goal

pub returns-clause-asked : goal.returns-clause-asked
returns-clause-asked c =
    number_of_entry 32 0 MAX_GUESSES _ (found_of c.args.matches.now) _ c.get_one.result c.get_one.ensures.value (lit< tt)
    (λ v given low high. kept_below c.min.result v MAX_GUESSES 1000 c.get_one.result (rw c.unwrap_or.ensures at c.min.ensures) given high)
