-- `unequal_sums_have_no_solution`, by counting the filled cells of a solution in two orders.
use Rattle.std.proofs.Common.{map}
use Rattle.grid_core.specs.Cells.{is_filled}
use Rattle.diagnosis.proofs.SolutionLaws.{equal_sums}
use Rattle.diagnosis.proofs.laws.unequal_sums_have_no_solution.Goals as goal

pub returns : goal.returns
returns c = λ p is unequal g solves. unequal (equal_sums p (map is_filled g.cells) solves.meets is)
