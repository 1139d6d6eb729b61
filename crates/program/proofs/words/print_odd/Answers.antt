-- `print_odd`: the pieces that are sent make up the line.
use Rattle.program.proofs.PrintingLemmas.{pieces_printed}
use Rattle.program.proofs.words.print_odd.Goals as goal

pub returns-clause-printed : goal.returns-clause-printed
returns-clause-printed g c =
    pieces_printed _ _ _ _ _ _ _ _ c.in_ok-print_text.ensures.ok (rw c.as_bytes.ensures.value at c.in_ok-print_text-2.ensures.ok)
    c.print_text-3.ensures.ok
