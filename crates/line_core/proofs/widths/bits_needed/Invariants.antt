-- The invariant of the loop of `bits_needed`: the greatest of the line's length and of the numbers so far.
use Rattle.line_core.proofs.Names.{◌≤◌, ℕ, take, All}
use Rattle.line_core.proofs.widths.bits_needed.Given as goal

abbrev pub invariant-loop-number : goal.invariant-loop-number
invariant-loop-number l = record {
  line : l.len ≤ l.needed;
  least : (most : ℕ) → l.len ≤ most → All (λ n. n ≤ most) l.clue → l.needed ≤ most;
  passed : All (λ n. n ≤ l.needed) (take l.number-index l.clue);
}
