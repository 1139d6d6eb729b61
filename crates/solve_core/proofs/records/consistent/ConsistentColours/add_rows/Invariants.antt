-- Invariant of the loop of `ConsistentColours::add_rows`: the recorded colours are consistent, and the rows in `left` are among
-- `rows`.
use Rattle.solve_core.proofs.Names.{◌≡◌, ◌<◌, ℕ, List, length, Some, Cell, Extends, Has, Nonogram, lines_of, round, AreConsistent}
use Rattle.solve_core.proofs.records.consistent.ConsistentColours.add_rows.Given as goal

abbrev pub invariant-loop-left : goal.invariant-loop-left
invariant-loop-left g l = record {
  left : (y : ℕ) → Has (g.W.BitSet.bits l.left) y → y < l.lines.height;
  count : length l.self-inside.rows.items ≡ length l.fn.self;
  consistent : (p : Nonogram) (cells : List Cell) → l.lines.width ≡ p.width → round (lines_of p) l.lines.cells ≡ Some l.lines.cells
      → Extends cells l.lines.cells → AreConsistent p l.fn.self cells → AreConsistent p l.self-inside.rows.items cells;
}

abbrev pub decreases-loop-left : goal.decreases-loop-left
decreases-loop-left g l = g.W.BitSet.bits l.left
