-- `solve_command`: its rules are those of its arguments, in order.
use Rattle.command_line.proofs.WordLemmas.{added, added_if_ok}
use Rattle.command_line.proofs.puzzles.solve_command.Goals as goal

pub returns : goal.returns
returns c =
    let named = c.described.ensures _ (record { shape = c.new.ensures.app; local = c.new.ensures.local }) in
    let first = added _ _ _ _ _ named c.guesses_option.ensures c.in_ok-arg.ensures in
    added_if_ok _ _ _ _ _ (added _ _ _ _ _ first c.pick_option.ensures c.in_ok-arg-2.ensures) c.file_word.ensures c.arg-3.ensures
