-- The loop of `split_body`: all text before `rest` is part of the body.
use Rattle.puzzle_text.proofs.Names.{length, FollowsPlain}
use Rattle.puzzle_text.proofs.collections.split_body.Given as goal

abbrev pub invariant-lines : goal.invariant-lines
invariant-lines l = FollowsPlain l.bytes l.rest

abbrev pub decreases-lines : goal.decreases-lines
decreases-lines l = length l.rest
