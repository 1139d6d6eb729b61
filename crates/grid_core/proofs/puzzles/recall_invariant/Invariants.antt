-- The loop invariant of `recall_invariant`, and its measure, the number of clues that are left.
use Rattle.grid_core.proofs.Names.{◌≡◌, true, length, AllByRecursion}
use Rattle.grid_core.specs.Clues.{is_clue}
use Rattle.grid_core.specs.declared.limits.TheConstants.{MAX_SIDE}
use Rattle.grid_core.proofs.puzzles.recall_invariant.Given as goal

-- all clues satisfy the invariant if those that are left do
abbrev pub invariant-recalling : goal.invariant-recalling
invariant-recalling l =
    AllByRecursion (λ clue. is_clue MAX_SIDE clue ≡ true) l.clues → AllByRecursion (λ clue. is_clue MAX_SIDE clue ≡ true) l.fn.clues

abbrev pub decreases-recalling : goal.decreases-recalling
decreases-recalling l = length l.clues
