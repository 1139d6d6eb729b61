-- `finish`: if an allocation failed while the words were parsed, nothing is printed to the output.
use Rattle.std.proofs.Common.{rules}
use Rattle.program.proofs.running.finish.Goals as goal

pub returns-in-Err-NoMemory-clause-ends : goal.returns-in-Err-NoMemory-clause-ends
returns-in-Err-NoMemory-clause-ends g c = search rules
