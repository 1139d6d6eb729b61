-- The ghost arguments of the calls in `find_starts`: the line.
use Rattle.line_core.proofs.starts.find_starts.Given as goal

abbrev pub ghost-write_suffixes : goal.ghost-write_suffixes
ghost-write_suffixes g a = g.cells

abbrev pub ghost-write_starts : goal.ghost-write_starts
ghost-write_starts g a = g.cells
