-- The ghost arguments of the calls in `LookaheadBuffers::write_lookaheads`: the mirrored line for the first call of
-- `write_prefix_supports`, and the line for all others.
use Rattle.line_core.proofs.Names.{reverse}
use Rattle.line_core.proofs.lookahead_buffers.LookaheadBuffers.write_lookaheads.Given as goal

abbrev pub ghost-write_mirrored_feasible : goal.ghost-write_mirrored_feasible
ghost-write_mirrored_feasible g a = g.cells

abbrev pub ghost-write_prefix_supports : goal.ghost-write_prefix_supports
ghost-write_prefix_supports g a = reverse g.cells

abbrev pub ghost-write_feasible : goal.ghost-write_feasible
ghost-write_feasible g a = g.cells

abbrev pub ghost-write_prefix_supports-2 : goal.ghost-write_prefix_supports-2
ghost-write_prefix_supports-2 g a = g.cells

abbrev pub ghost-combine_supports : goal.ghost-combine_supports
ghost-combine_supports g a = g.cells
