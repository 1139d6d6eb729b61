-- `written`: the text is the one of the writer; a failed allocation is allowed in place of any answer.
use Rattle.std.proofs.Common.{ap, refl}
use Rattle.nonograde_c.specs.Calls.{of_writer}
use Rattle.nonograde_c.proofs.answers.written.Goals as goal

pub returns-in-Ok : goal.returns-in-Ok
returns-in-Ok c = ap of_writer c.in-Ok.ensures.text

pub returns-in-Err-NoMemory : goal.returns-in-Err-NoMemory
returns-in-Err-NoMemory c = λ differs. absurd (differs refl)
