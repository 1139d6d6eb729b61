-- The names that most proofs cite, imported and exported again. Declares nothing.
pub use Rattle.std.proofs.Common.{Bool, IsTrue, List, None, Option, Some, [], ap, arith, cond, drop, ext_get_or, false, filter, get_or, get_or-drop, get_or-take, inl, inr, is_some, length, length-append, length-drop, length-set, map, nat_eq, not, refl, replicate, set, suc, sym, take, true, vec_capacity, zero, zero-add, ℕ, ◌%◌, ◌*◌, ◌++◌, ◌+◌, ◌-◌, ◌/◌, ◌<◌, ◌∙◌, ◌∷◌, ◌≡◌, ◌≢◌, ◌≤◌, ◌⊎◌}
pub use Rattle.std.proofs.Math.Nat.{mul-le-mul_left, mul-le-mul_right}
pub use Rattle.std.proofs.Math.Seq.{drop-append-add, drop-append_seam, take-append-add, take-append_seam}
pub use Rattle.std.proofs.lemmas.Bool.Decides.{nat_tests}
pub use Rattle.std.proofs.lemmas.Grind.{common_steps, rows}
pub use Rattle.std.proofs.lemmas.List.{append-nil, append_assoc, drop-drop, get_or-append_right, get_or-map, get_or-replicate, get_or_append_left, length-map, length-replicate, length-take-le, map-set, replicate-append-replicate, set-append_left, set-append_right, take-append-drop, take_all}
pub use Rattle.std.proofs.lemmas.List.FromFn.{get_or-enumerate_from, get_or-map-range_with_len, length-enumerate_from, length-map-range_with_len}
pub use Rattle.std.proofs.lemmas.Nat.Bits.{bit_at-zero}
pub use Rattle.std.specs.List.{All, AllByRecursion, count_by, enumerate_from, list_all, position, position_or_len}
pub use Rattle.bit_sets.specs.Masks.{Has, IsWithBit, IsMaskOf, has}
pub use Rattle.grid_core.specs.Cells.{is_filled, is_known, is_unknown}
pub use Rattle.grid_core.specs.StoredRows.{AreRowsOf, IsStoredRow, padded_rows, row_cells, rows_cells, unknown_row}
pub use Rattle.grid_core.specs.Lines.{IsChanged, IsUnknownCell, IsUnknownFrom, cell_with, is_blank, line_cells}
pub use Rattle.grid_core.specs.Nonogram.{GridLine, MeetsLine, Nonogram, cells_at, clues_on, crossing, line_on, lines_of, numbered_line, strided_indices, line_indices}
pub use Rattle.grid_core.specs.PartialGrid.{PartialGrid, cell_at}
pub use Rattle.grid_core.specs.Rows.{cells_of_rows, row_of, with_row}
pub use Rattle.grid_core.specs.Runs.{is_positive, runs, stretches}
pub use Rattle.grid_core.specs.declared.cells.Cell.{Cell}
pub use Rattle.grid_core.specs.declared.cells.Cell.TheVariants.{Blank, Filled, Unknown}
pub use Rattle.grid_core.specs.declared.rows.Row.{Row}
pub use Rattle.grid_core.specs.declared.axes.Axis.TheVariants.{Columns, Rows}
pub use Rattle.grid_core.specs.steps.Pictures.{values_of}
