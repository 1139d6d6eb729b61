-- The loop invariant of `axis_sum`: the first clues are added, each at most 32,768.
use Rattle.std.proofs.Common.{◌≡◌, ◌*◌, ◌≤◌, take}
use Rattle.std.specs.List.{sum, sum_by}
use Rattle.diagnosis.proofs.sums.axis_sum.Given as goal

abbrev pub invariant-loop-clue : goal.invariant-loop-clue
invariant-loop-clue l = (l.sum ≡ sum_by sum (take l.clue-index l.clues)) × (l.sum ≤ 32768 * l.clue-index)
