-- The loop invariant of `fit_table`: the table is correct up to the current level.
use Rattle.std.proofs.Common.{◌≡◌, ℕ, ◌≤◌, ◌^◌, length, map, get_or}
use Rattle.bit_sets.specs.Masks.{Has, IsMaskOf, AllFrom}
use Rattle.bit_sets.proofs.fit_tables.fit_table.Given as goal

abbrev pub invariant-loop-level : goal.invariant-loop-level
invariant-loop-level g l = record {
  size : length l.table ≡ 9;
  each : (k : ℕ) → k ≤ l.level
      → IsMaskOf (AllFrom (Has (g.W.BitSet.bits l.fn.mask)) (2 ^ k)) (get_or (map g.W.BitSet.bits l.table) k 0);
}
