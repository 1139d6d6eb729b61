-- The loop invariant of `is_row_off`: the cells before column `x` have the goal's colours.
use Rattle.std.proofs.Common.{◌≡◌, false}
use Rattle.std.specs.List.{list_any, range_with_len}
use Rattle.diagnosis.specs.Goals.{is_cell_off}
use Rattle.diagnosis.proofs.goals.is_row_off.Given as goal

abbrev pub invariant-loop-x : goal.invariant-loop-x
invariant-loop-x l = list_any (is_cell_off l.goal l.grid l.y) (range_with_len 0 l.x) ≡ false
