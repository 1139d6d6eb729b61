-- Invariant of the loop of `write_each`: of the lines at `places`, those before `from` have the colour; all others are
-- unchanged.
use Rattle.solve_core.proofs.Names.{◌≡◌, ℕ, ◌-◌, ◌*◌, ◌<◌, ◌≤◌, [], get_or, set, Has}
use Rattle.solve_core.proofs.grids.crossing_writes.write_each.Given as goal

abbrev pub invariant-loop-from : goal.invariant-loop-from
invariant-loop-from g l =
    let indices = g.W.BitSet.bits l.indices in
    record {
      words : (q : ℕ) × (l.from ≡ q * 64);
      as_old : (k : ℕ) → (Has indices k → l.from ≤ k) → get_or l.lines k [] ≡ get_or l.fn.lines k [];
      as_new : (k : ℕ) → Has indices k → k < l.from → get_or l.lines k [] ≡ set (get_or l.fn.lines k []) l.i l.colour;
      most : l.from ≤ 256;
    }

abbrev pub decreases-loop-from : goal.decreases-loop-from
decreases-loop-from g l = 256 - l.from
