-- `deduce_numbers`: the support masks determine the deduced line.
use Rattle.line_core.proofs.Names.{rules}
use Rattle.line_core.proofs.LineCells.{clue_positive}
use Rattle.line_core.proofs.SupportLaws.{support-deduced}
use Rattle.line_core.proofs.deduction.deduce_numbers.Goals as goal

pub returns : goal.returns
returns g c = search (rules, clue_positive, support-deduced)
