-- The invariant of the loop of `read_bodies`: there is a body for each file passed.
use Rattle.std.proofs.Common.{◌≡◌, vec_len}
use Rattle.program.proofs.checks.read_bodies.Given as goal

abbrev pub invariant-loop-path : goal.invariant-loop-path
invariant-loop-path g l = vec_len l.bodies ≡ l.path-index
