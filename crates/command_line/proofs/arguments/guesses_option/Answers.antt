-- `guesses_option`: the text of the default writes the constant.
use Rattle.std.proofs.Common.{codes, rules}
use Rattle.std.specs.Fmt.{digits}
use Rattle.lane_core.specs.declared.jobs.TheConstants.{MAX_GUESSES}
use Rattle.command_line.specs.Words.{number_rule}
use Rattle.command_line.specs.steps.Words.{IsArgument}
use Rattle.command_line.proofs.arguments.guesses_option.Goals as goal

pub returns : goal.returns
unfolding digits
returns c =
    let shown : IsArgument (number_rule (codes "guesses") 0 MAX_GUESSES (codes "1000")) c.default_value.result = search rules in
    shown
