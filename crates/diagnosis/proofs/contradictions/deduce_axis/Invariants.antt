-- The loop invariant of `deduce_axis`: the lines before line `index` are deduced, and none of them is dead.
use Rattle.std.proofs.Common.{◌≡◌, ℕ, ◌<◌, [], length, Some, slice_index_or}
use Rattle.diagnosis.specs.Contradictions.{deduced_on}
use Rattle.diagnosis.proofs.contradictions.deduce_axis.Given as goal

abbrev pub invariant-loop-index : goal.invariant-loop-index
invariant-loop-index l =
    (l.tables ≡ l.initial.tables) × (length l.lines.items ≡ l.index)
    × ((i : ℕ) → i < l.index → deduced_on l.axis l.puzzle l.grid.cells i ≡ Some (slice_index_or l.lines.items i []))
