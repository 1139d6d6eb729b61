-- The loop invariant of `read_line`: the line has its old length, and its first `i` elements are the picture's cells.
use Rattle.grid_core.proofs.Names.{◌≡◌, ◌<◌, ◌+◌, ◌*◌, ℕ, false, get_or, length, values_of}
use Rattle.grid_core.proofs.pictures.read_line.Given as goal

abbrev pub invariant-loop-i : goal.invariant-loop-i
invariant-loop-i l = record {
  size : length l.line ≡ length l.fn.line;
  read : (k : ℕ) → k < l.i → get_or l.line k false ≡ get_or (values_of l.picture) (l.first + k * l.step) false;
}
