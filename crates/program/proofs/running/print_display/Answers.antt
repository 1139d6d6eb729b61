-- `print_display`: if an allocation fails, nothing is printed.
use Rattle.program.proofs.PrintingLemmas.{unprinted}
use Rattle.program.proofs.running.print_display.Goals as goal

pub returns-in-Err-clause-answer : goal.returns-in-Err-clause-answer
returns-in-Err-clause-answer g c = unprinted _ _
