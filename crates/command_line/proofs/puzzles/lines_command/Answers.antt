-- `lines_command`: its rules are those of its arguments, in order.
use Rattle.command_line.proofs.WordLemmas.{added_if_ok}
use Rattle.command_line.proofs.puzzles.lines_command.Goals as goal

pub returns : goal.returns
returns c =
    added_if_ok _ _ _ _ _ (c.described.ensures _ (record { shape = c.new.ensures.app; local = c.new.ensures.local }))
    c.file_word.ensures c.arg.ensures
