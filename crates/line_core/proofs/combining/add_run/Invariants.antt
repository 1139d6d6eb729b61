-- The invariant of the loop of `add_run`: what goes with the ends that are no longer left is added.
use Rattle.line_core.proofs.Names.{◌+◌, ◌-◌, get_or, ◌<◌, ◌≤◌, true, CanBeBesideRun}
use Rattle.line_core.proofs.CombiningLemmas.{AreLookaheadsAdded}
use Rattle.line_core.proofs.combining.add_run.Given as goal

abbrev pub ghost-support_with_run : goal.ghost-support_with_run
ghost-support_with_run g a = g.line

abbrev pub invariant-loop-left : goal.invariant-loop-left
invariant-loop-left g l = AreLookaheadsAdded true (g.W.BitSet.bits l.fn.ends) (g.W.BitSet.bits l.left)
    (λ x e d k. (e + 1 - get_or l.clue l.j 0 ≤ x) × (x < e + 1) × CanBeBesideRun g.line l.clue l.j e d k) l.fn.lookaheads l.lookaheads

abbrev pub decreases-loop-left : goal.decreases-loop-left
decreases-loop-left g l = g.W.BitSet.bits l.left
