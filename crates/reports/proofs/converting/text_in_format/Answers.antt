-- `text_in_format`: the result of the writer, mapped to faults of the conversion, is the one of the definition.
use Rattle.std.proofs.Common.{ap, arith}
use Rattle.reports.specs.Converting.{in_conversion}
use Rattle.reports.proofs.converting.text_in_format.Goals as goal

pub returns-in-Ok-clause-answer : goal.returns-in-Ok-clause-answer
returns-in-Ok-clause-answer c = ap in_conversion c.in-Ok.ensures.text

pub returns-in-Err-NoMemory-clause-answer : goal.returns-in-Err-NoMemory-clause-answer
returns-in-Err-NoMemory-clause-answer c = grind arith
