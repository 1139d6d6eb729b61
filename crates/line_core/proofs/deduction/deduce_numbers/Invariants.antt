-- The ghost argument of the call of `line_support` in `deduce_numbers`: the cells of the line.
use Rattle.line_core.proofs.deduction.deduce_numbers.Given as goal

abbrev pub ghost-line_support : goal.ghost-line_support
ghost-line_support g a = a.line.now
