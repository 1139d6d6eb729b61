-- The invariant of the loop of `write_first`: the prefix supports of the gaps that are no longer left are written.
use Rattle.line_core.proofs.Names.{[], nat_eq, not, no_support, IsPrefixSupport}
use Rattle.line_core.proofs.GapRows.{IsWalk}
use Rattle.line_core.proofs.prefix_supports.write_first.Given as goal

abbrev pub invariant-loop-left : goal.invariant-loop-left
invariant-loop-left g l =
    IsWalk (g.W.BitSet.bits l.fn.gaps) (g.W.BitSet.bits l.left)
    (IsPrefixSupport (not (nat_eq g.row.MIRRORED 0)) g.line []) no_support l.row

abbrev pub decreases-loop-left : goal.decreases-loop-left
decreases-loop-left g l = g.W.BitSet.bits l.left
