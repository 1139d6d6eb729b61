-- The loop invariant of `rows_off`: the rows before `y` that differ are found.
use Rattle.std.proofs.Common.{◌≡◌}
use Rattle.std.specs.List.{filter, range_with_len}
use Rattle.diagnosis.specs.Goals.{is_row_off}
use Rattle.diagnosis.proofs.goals.rows_off.Given as goal

abbrev pub invariant-loop-y : goal.invariant-loop-y
invariant-loop-y l = l.found.items ≡ filter (is_row_off l.goal l.grid) (range_with_len 0 l.y)
