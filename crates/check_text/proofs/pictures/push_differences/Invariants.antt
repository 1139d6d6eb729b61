-- The loop of `push_differences`: the marks of the first `step` columns are appended.
use Rattle.std.proofs.Common.{◌≡◌, ℕ, ◌++◌, map}
use Rattle.std.specs.List.{range_with_len}
use Rattle.grid_core.specs.PartialGrid.{cell_at}
use Rattle.check_text.specs.Pictures.{difference_byte}
use Rattle.check_text.proofs.pictures.push_differences.Given as goal

abbrev pub invariant-loop-step : goal.invariant-loop-step
invariant-loop-step l =
    l.text.items ≡ l.initial.text.items ++ map (λ (x : ℕ). difference_byte (cell_at l.first x l.y) (cell_at l.second x l.y)) (range_with_len l.window.column l.step)
