-- The ghost arguments of the calls in `write_mirrored_feasible`: the line, and the mirrored line.
use Rattle.line_core.proofs.Names.{reverse}
use Rattle.line_core.proofs.lookahead_buffers.write_mirrored_feasible.Given as goal

abbrev pub ghost-reversed : goal.ghost-reversed
ghost-reversed g a = g.line

abbrev pub ghost-write_feasible : goal.ghost-write_feasible
ghost-write_feasible g a = reverse g.line
