-- The ghost arguments of the calls in `line_support`: the line, or the padded line for the general case.
use Rattle.line_core.proofs.Names.{padded}
use Rattle.line_core.proofs.deduction.line_support.Given as goal

abbrev pub ghost-is_unknown : goal.ghost-is_unknown
ghost-is_unknown g a = g.cells

abbrev pub ghost-padded : goal.ghost-padded
ghost-padded g a = g.cells

abbrev pub ghost-general_support : goal.ghost-general_support
ghost-general_support g a = padded g.W.BitSet.WIDTH g.cells
