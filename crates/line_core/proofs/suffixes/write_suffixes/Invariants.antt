-- The ghost argument of the call of `write_reversed_suffixes` in `write_suffixes`: the line.
use Rattle.line_core.proofs.suffixes.write_suffixes.Given as goal

abbrev pub ghost-write_reversed_suffixes : goal.ghost-write_reversed_suffixes
ghost-write_reversed_suffixes g a = g.line
