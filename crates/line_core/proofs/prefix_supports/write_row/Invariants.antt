-- The invariant of the loop of `write_row`: the prefix supports of the gaps that are no longer left are written, and
-- `last` is that of the last one.
use Rattle.line_core.proofs.Names.{◌+◌, nat_eq, not, reversed_prefix, no_support, IsPrefixSupport}
use Rattle.line_core.proofs.GapRows.{IsLast, IsWalk}
use Rattle.line_core.proofs.prefix_supports.write_row.Given as goal

abbrev pub invariant-loop-longer : goal.invariant-loop-longer
invariant-loop-longer g l =
    let given = IsPrefixSupport (not (nat_eq g.row.MIRRORED 0)) g.line (reversed_prefix 0 l.fn.clue (l.fn.j + 1)) in
    let gaps = g.W.BitSet.bits l.fn.feasible.gaps in
    let left = g.W.BitSet.bits l.left in record { walk : IsWalk gaps left given no_support l.row; last : IsLast gaps left given l.last }

abbrev pub decreases-loop-longer : goal.decreases-loop-longer
decreases-loop-longer g l = g.W.BitSet.bits l.left
