-- `print_text`: if the text wasn't sent, the writer failed.
use Rattle.std.proofs.Common.{refl}
use Rattle.program.proofs.performing.print_text.Goals as goal

pub returns-in-Err-clause-write : goal.returns-in-Err-clause-write
returns-in-Err-clause-write g c = refl
