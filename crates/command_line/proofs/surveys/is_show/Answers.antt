-- `is_show`: the flag that `clap` read is set exactly if its text is `true`.
use Rattle.std.proofs.Common.{codes}
use Rattle.clap.specs.Words.{found_of}
use Rattle.command_line.proofs.WordLemmas.{true_of_entry}
use Rattle.command_line.proofs.surveys.is_show.Goals as goal

pub returns : goal.returns
returns c =
    rw c.unwrap_or.ensures (true_of_entry _ (found_of c.args.matches.now) (codes "show") _ c.get_one.ensures.none c.get_one.ensures.value)
