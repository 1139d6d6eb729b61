-- The loop of `push_pictures`: the first `step` rows are appended.
use Rattle.std.proofs.Common.{◌≡◌, ◌++◌}
use Rattle.std.specs.List.{flat_map, range_with_len}
use Rattle.check_text.specs.Pictures.{picture_row}
use Rattle.check_text.proofs.pictures.push_pictures.Given as goal

abbrev pub invariant-loop-step : goal.invariant-loop-step
invariant-loop-step l =
    l.text.items ≡ l.initial.text.items ++ flat_map (picture_row l.first l.second l.window) (range_with_len l.window.row l.step)
