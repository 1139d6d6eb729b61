-- The loop invariant of `differing_cells`: the differing cells before `index` are found.
use Rattle.std.proofs.Common.{◌≡◌, map}
use Rattle.std.specs.List.{filter, range_with_len}
use Rattle.diagnosis.specs.Differences.{is_different, position_at}
use Rattle.diagnosis.proofs.differences.differing_cells.Given as goal

abbrev pub invariant-loop-index : goal.invariant-loop-index
invariant-loop-index l =
    l.found.items ≡ filter (is_different l.first l.second) (map (position_at l.first.width) (range_with_len 0 l.index))
