-- The loop of `push_cells`: the cells of the first `step` columns are appended.
use Rattle.std.proofs.Common.{◌≡◌, ℕ, ◌++◌, map}
use Rattle.std.specs.List.{range_with_len}
use Rattle.grid_core.specs.PartialGrid.{cell_at}
use Rattle.survey_text.specs.Grids.{cell_byte}
use Rattle.check_text.proofs.pictures.push_cells.Given as goal

abbrev pub invariant-loop-step : goal.invariant-loop-step
invariant-loop-step l =
    l.text.items ≡ l.initial.text.items ++ map (λ (x : ℕ). cell_byte (cell_at l.grid x l.y)) (range_with_len l.window.column l.step)
