-- `line_support`: the support of the padded line, limited to the cells of the line.
use Rattle.line_core.proofs.Names.{rules}
use Rattle.line_core.proofs.LineCells.{clue_positive}
use Rattle.line_core.proofs.Padding.{blankable_alone, fillable_alone}
use Rattle.line_core.proofs.deduction.line_support.Goals as goal

pub returns-clause-filled : goal.returns-clause-filled
returns-clause-filled g c = search (rules, clue_positive, fillable_alone)

pub returns-clause-blank : goal.returns-clause-blank
returns-clause-blank g c =
    let first = rw (c.of-domain.ensures.len_is, c.requires.1.1.1.0) at c.prefix.ensures in
    search (rules, clue_positive, blankable_alone, first)
