-- `grade_by`: the answer has the number, puzzle, limit and pick of the job, and their report as its outcome.
use Rattle.std.proofs.Common.{rules}
use Rattle.lane_core.proofs.grading.grade_by.Goals as goal

pub returns : goal.returns
returns c = search rules
