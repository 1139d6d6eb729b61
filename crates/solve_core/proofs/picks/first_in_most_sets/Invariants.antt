-- Invariant of the loop of `first_in_most_sets`: each of `indices` is in fewer than `count` of the four sets.
use Rattle.solve_core.proofs.Names.{◌+◌, ◌-◌, ◌<◌, ◌≤◌, ℕ, Has, set_count}
use Rattle.solve_core.proofs.picks.first_in_most_sets.Given as goal

abbrev pub invariant-loop-count : goal.invariant-loop-count
invariant-loop-count g l = record {
  within : l.count ≤ 5;
  more : (i : ℕ) → Has (g.W.BitSet.bits l.indices) i → set_count l.first i + set_count l.second i < l.count;
}

abbrev pub decreases-loop-count : goal.decreases-loop-count
decreases-loop-count g l = l.count - l.least
