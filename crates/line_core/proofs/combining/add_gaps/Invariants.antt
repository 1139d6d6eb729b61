-- The invariant of the loop of `add_gaps`: what goes with the gaps that are no longer left is added.
use Rattle.line_core.proofs.Names.{◌+◌, ◌<◌, ◌≤◌, false, CanBeBesideGap}
use Rattle.line_core.proofs.CombiningLemmas.{AreLookaheadsAdded}
use Rattle.line_core.proofs.combining.add_gaps.Given as goal

abbrev pub ghost-support_with_gap : goal.ghost-support_with_gap
ghost-support_with_gap g a = g.line

abbrev pub invariant-loop-left : goal.invariant-loop-left
invariant-loop-left g l = AreLookaheadsAdded false (g.W.BitSet.bits l.fn.gaps) (g.W.BitSet.bits l.left)
    (λ x i d k. (i ≤ x) × (x < i + 1) × CanBeBesideGap g.line l.clue l.j i d k) l.fn.lookaheads l.lookaheads

abbrev pub decreases-loop-left : goal.decreases-loop-left
decreases-loop-left g l = g.W.BitSet.bits l.left
