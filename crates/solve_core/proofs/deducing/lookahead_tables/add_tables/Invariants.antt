-- Invariant of the loop of `with_tables`: no table has a line.
use Rattle.solve_core.specs.steps.LookaheadTables.{AreEmpty}
use Rattle.solve_core.proofs.deducing.lookahead_tables.add_tables.Given as goal

abbrev pub invariant-loop : goal.invariant-loop
invariant-loop g l = AreEmpty l.tables.items
