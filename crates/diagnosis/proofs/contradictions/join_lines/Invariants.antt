-- The loop invariant of `join_lines`: the cells before `index` are joined.
use Rattle.std.proofs.Common.{◌≡◌, ℕ, ◌*◌, ◌<◌, length, Some, slice_index_or}
use Rattle.grid_core.specs.declared.cells.Cell.TheVariants.{Unknown}
use Rattle.diagnosis.specs.Differences.{position_at}
use Rattle.diagnosis.specs.Rounds.{joined_in}
use Rattle.diagnosis.proofs.contradictions.join_lines.Given as goal

abbrev pub invariant-loop-index : goal.invariant-loop-index
invariant-loop-index l =
    (l.grid.width ≡ l.initial.grid.width) × (l.grid.height ≡ l.initial.grid.height)
    × (length l.grid.cells ≡ l.initial.grid.width * l.initial.grid.height)
    × ((k : ℕ) → k < l.index → joined_in l.rows l.columns (position_at l.grid.width k) ≡ Some (slice_index_or l.grid.cells k Unknown))
