-- The ghost arguments of the calls in `general_support`: the line.
use Rattle.line_core.proofs.deduction.general_support.Given as goal

abbrev pub ghost-write_suffixes : goal.ghost-write_suffixes
ghost-write_suffixes g a = g.line

abbrev pub ghost-scanned_support : goal.ghost-scanned_support
ghost-scanned_support g a = g.line

abbrev pub ghost-single_run_support : goal.ghost-single_run_support
ghost-single_run_support g a = g.line
