-- Invariant of the loop of `places_for_clues`: `needed` suffices for the numbers of the clues passed, and is at most
-- what all clues need.
use Rattle.solve_core.proofs.Names.{◌≤◌, ℕ, take, All, MAX_SIDE}
use Rattle.solve_core.proofs.widths.places_for_clues.Given as goal

abbrev pub invariant-loop-clue : goal.invariant-loop-clue
invariant-loop-clue l = record {
  least : l.least ≤ l.needed;
  passed : All (All (λ number. number ≤ l.needed)) (take l.clue-index l.clues);
  fewest : (bound : ℕ) → l.least ≤ bound → All (All (λ number. number ≤ bound)) l.clues → l.needed ≤ bound;
  most : l.needed ≤ MAX_SIDE;
}
