-- The ghost argument of the call of `single_run_starts` in `single_run_support`: the line.
use Rattle.line_core.proofs.single_run.single_run_support.Given as goal

abbrev pub ghost-single_run_starts : goal.ghost-single_run_starts
ghost-single_run_starts g a = g.line
