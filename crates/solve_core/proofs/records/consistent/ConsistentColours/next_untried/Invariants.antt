-- Invariant of the loop of `ConsistentColours::next_untried`: if `all` and `least` is 0, both colours are recorded at the unknown cells
-- passed, from `from` on.
use Rattle.std.specs.Prelude.{IsTrue}
use Rattle.solve_core.proofs.Names.{◌≡◌, ◌+◌, ◌*◌, ◌/◌, ◌%◌, ◌<◌, ◌≤◌, ℕ, IsUnknownCell, AreBothRecorded}
use Rattle.solve_core.proofs.records.consistent.ConsistentColours.next_untried.Given as goal

abbrev pub invariant-loop-y : goal.invariant-loop-y
invariant-loop-y g l = record {
  column : l.column < l.width;
  from : l.from ≤ l.y * l.width + l.column;
  passed : IsTrue l.all → l.least ≡ 0 → (k : ℕ) → l.from ≤ k → k < l.y * l.width + l.column → IsUnknownCell l.lines.cells k
      → AreBothRecorded l.self (k % l.width) (k / l.width);
}
