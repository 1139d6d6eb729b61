-- The invariant of the loop of `puzzles_among`: `count` is the number of puzzles among the first `fault-index` entries.
use Rattle.std.proofs.Common.{◌≡◌, take}
use Rattle.survey_core.specs.steps.Graded.{puzzle_count}
use Rattle.survey_core.proofs.grading.puzzles_among.Given as goal

abbrev pub invariant-loop-fault : goal.invariant-loop-fault
invariant-loop-fault l = l.count ≡ puzzle_count (take l.fault-index l.faults)
