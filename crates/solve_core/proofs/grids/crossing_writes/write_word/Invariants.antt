-- Invariant of the loop of `write_word`: the lines at the indices in `left` are unchanged, and those at the other
-- indices of the word have the colour.
use Rattle.solve_core.proofs.Names.{◌≡◌, ◌≢◌, ℕ, ◌+◌, [], get_or, set, Has}
use Rattle.solve_core.proofs.grids.crossing_writes.write_word.Given as goal

abbrev pub invariant-loop-colour : goal.invariant-loop-colour
invariant-loop-colour g l = record {
  inside : (x : ℕ) → Has l.left x → Has l.initial.left x;
  as_old : (k : ℕ) → ((x : ℕ) → Has l.initial.left x → (Has l.left x → ⊥) → l.from + x ≢ k) →
      get_or l.lines k [] ≡ get_or l.fn.lines k [];
  as_new : (x : ℕ) → Has l.initial.left x → (Has l.left x → ⊥) →
      get_or l.lines (l.from + x) [] ≡ set (get_or l.fn.lines (l.from + x) []) l.i l.colour;
}

abbrev pub decreases-loop-colour : goal.decreases-loop-colour
decreases-loop-colour g l = l.left
