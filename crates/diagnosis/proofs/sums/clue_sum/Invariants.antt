-- The loop invariant of `clue_sum`: the first numbers are added, each at most 256.
use Rattle.std.proofs.Common.{◌≡◌, ◌*◌, ◌≤◌, take}
use Rattle.std.specs.List.{sum}
use Rattle.diagnosis.proofs.sums.clue_sum.Given as goal

abbrev pub invariant-loop-number : goal.invariant-loop-number
invariant-loop-number l = (l.sum ≡ sum (take l.number-index l.number-items)) × (l.sum ≤ 256 * l.number-index)
