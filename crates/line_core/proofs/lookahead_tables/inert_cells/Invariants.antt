-- The invariant of the loop of `inert_cells`: the cells that are left are unknown, and those found so far are inert.
use Rattle.line_core.proofs.Names.{ℕ, List, Has}
use Rattle.grid_core.specs.Lines.{IsUnknownCell}
use Rattle.line_core.specs.Lookahead.{AreInert, AreLookaheadsOf}
use Rattle.line_core.proofs.lookahead_tables.inert_cells.Given as goal

abbrev pub invariant-loop-unknown : goal.invariant-loop-unknown
invariant-loop-unknown g l = record {
  left : (i : ℕ) → Has (g.W.BitSet.bits l.left) i → IsUnknownCell l.line i;
  found : (clue : List ℕ) → AreLookaheadsOf clue l.line l.lookaheads → AreInert clue l.line l.filled (g.W.BitSet.bits l.inert);
}

abbrev pub decreases-loop-unknown : goal.decreases-loop-unknown
decreases-loop-unknown g l = g.W.BitSet.bits l.left
