-- The ghost argument of the call of `find_starts` in `Starts::find`: the line.
use Rattle.line_core.proofs.starts.Starts.find.Given as goal

abbrev pub ghost-find_starts : goal.ghost-find_starts
ghost-find_starts a = a.line.now
