-- `print_stop`: the pieces that are sent make up the line.
use Rattle.program.proofs.PrintingLemmas.{pieces_printed}
use Rattle.program.proofs.running.print_stop.Goals as goal

pub returns-clause-printed : goal.returns-clause-printed
returns-clause-printed g c =
    pieces_printed _ _ _ _ _ _ _ _ c.in_ok-print_text.ensures.ok (rw c.stop_word.ensures at c.in_ok-print_word.ensures.printed)
    c.print_text-2.ensures.ok
