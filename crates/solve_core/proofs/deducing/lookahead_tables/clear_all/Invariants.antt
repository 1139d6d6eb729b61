-- Invariant of the loop of `clear_all`: the tables passed have no line.
use Rattle.solve_core.proofs.Names.{◌≡◌, ℕ, ◌<◌, None, length, get_or}
use Rattle.line_core.specs.Lookahead.{no_table}
use Rattle.solve_core.proofs.deducing.lookahead_tables.clear_all.Given as goal

abbrev pub invariant-loop-i : goal.invariant-loop-i
invariant-loop-i g l = record {
  passed : (k : ℕ) → k < l.i → (get_or l.tables k no_table).line ≡ None;
  count : length l.tables ≡ length l.initial.tables;
}
