-- `survey_command`: its rules are those of its arguments, in order.
use Rattle.command_line.proofs.WordLemmas.{added, added_if_ok}
use Rattle.command_line.proofs.surveys.survey_command.Goals as goal

pub returns : goal.returns
returns c =
    let named = c.described.ensures _ c.in_ok-command.ensures in
    let first = added _ _ _ _ _ named c.format_option.ensures c.in_ok-arg.ensures in
    let second = added _ _ _ _ _ first c.flag.ensures c.in_ok-arg-2.ensures in
    added_if_ok _ _ _ _ _ (added _ _ _ _ _ second c.flag-2.ensures c.in_ok-arg-3.ensures) c.file_words.ensures c.arg-4.ensures
