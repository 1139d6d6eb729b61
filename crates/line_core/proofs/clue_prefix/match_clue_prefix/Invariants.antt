-- The invariant of the loop of `match_clue_prefix`: the cells that are left have the runs that come after those removed.
use Rattle.line_core.proofs.Names.{Bool, List, IsMaskOf, nat_eq, not}
use Rattle.line_core.specs.steps.CluePrefix.{IsFilled, mirrored_if}
use Rattle.line_core.proofs.CluePrefixes.{IsWalked}
use Rattle.line_core.proofs.clue_prefix.match_clue_prefix.Given as goal

abbrev pub invariant-loop-j : goal.invariant-loop-j
invariant-loop-j g l =
    (cells : List Bool) → IsMaskOf (IsFilled cells) (g.W.BitSet.bits l.fn.filled)
    → IsWalked cells (mirrored_if (not (nat_eq g.row.MIRRORED 0)) l.clue) l.j l.least (g.W.BitSet.bits l.left)
