-- The loop invariant of `write_all`: the rows so far store the lines so far, and the capacity is as it was.
use Rattle.grid_core.proofs.Names.{◌≡◌, ◌<◌, ℕ, [], length, get_or, vec_capacity, Row, IsStoredRow, row_cells}
use Rattle.grid_core.proofs.grids.write_all.Given as goal

abbrev pub invariant-loop-line : goal.invariant-loop-line
invariant-loop-line g l = record {
  count : length l.rows.items ≡ l.line-index;
  each : (y : ℕ) → y < l.line-index → (row : Row) → IsStoredRow (length (get_or l.lines y [])) (get_or l.rows.items y row);
  cells : (y : ℕ) → y < l.line-index → (row : Row) →
      row_cells (length (get_or l.lines y [])) (get_or l.rows.items y row) ≡ get_or l.lines y [];
  capacity : vec_capacity l.rows ≡ vec_capacity l.fn.rows;
}
