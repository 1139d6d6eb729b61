-- The invariant of the loop of `reverse_all`: the masks so far are reversed, and the others unchanged.
use Rattle.line_core.proofs.Names.{◌≡◌, ◌-◌, ℕ, ◌<◌, ◌≤◌, length, get_or, map, Has, IsMaskOf}
use Rattle.line_core.proofs.suffixes.reverse_all.Given as goal

abbrev pub invariant-loop-i : goal.invariant-loop-i
invariant-loop-i g l = record {
  size : length l.masks ≡ length l.fn.masks;
  reversed : (k : ℕ) → k < l.i → IsMaskOf (λ i. (i < l.len) × Has (get_or (map g.W.BitSet.stored_bits l.fn.masks) k 0) (l.len - 1 - i))
      (get_or (map g.W.BitSet.stored_bits l.masks) k 0);
  left : (k : ℕ) → l.i ≤ k → get_or (map g.W.BitSet.stored_bits l.masks) k 0 ≡ get_or (map g.W.BitSet.stored_bits l.fn.masks) k 0;
}
