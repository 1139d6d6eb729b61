-- The ghost argument of the call of `LookaheadBuffers::write_lookaheads` in `write_lookaheads_within`: the line.
use Rattle.line_core.proofs.deduction.write_lookaheads_within.Given as goal

abbrev pub ghost-write_lookaheads : goal.ghost-write_lookaheads
ghost-write_lookaheads g a = a.line.now
