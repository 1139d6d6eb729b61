-- `surveying_program`: its commands are the two that are added.
use Rattle.command_line.proofs.WordLemmas.{joined, joined_if_ok}
use Rattle.command_line.proofs.command.surveying_program.Goals as goal

pub returns : goal.returns
returns c =
    let surveying = joined _ _ _ _ _ c.bare_program.ensures c.in_ok-survey_command.ensures c.in_ok-subcommand.ensures in
    joined_if_ok _ _ _ _ _ surveying c.in_ok-check_command.ensures c.subcommand-2.ensures
