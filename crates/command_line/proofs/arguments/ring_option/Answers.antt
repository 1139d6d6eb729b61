-- `ring_option`: the text of the default writes the constant.
use Rattle.std.proofs.Common.{codes, rules}
use Rattle.std.specs.Fmt.{digits}
use Rattle.survey_core.specs.declared.settings.TheConstants.{MAX_RING}
use Rattle.command_line.specs.Words.{number_rule}
use Rattle.command_line.specs.steps.Words.{IsArgument}
use Rattle.command_line.proofs.arguments.ring_option.Goals as goal

pub returns : goal.returns
unfolding digits
returns c =
    let shown : IsArgument (number_rule (codes "ring") 1 MAX_RING (codes "8")) c.default_value.result = search rules in
    shown
