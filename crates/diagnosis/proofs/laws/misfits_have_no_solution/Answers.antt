-- `misfits_have_no_solution`, by the cells that runs need.
use Rattle.std.proofs.Common.{map}
use Rattle.grid_core.specs.Cells.{is_filled}
use Rattle.diagnosis.proofs.SolutionLaws.{no_misfits}
use Rattle.diagnosis.proofs.laws.misfits_have_no_solution.Goals as goal

pub returns : goal.returns
returns c = λ p some g solves. some (no_misfits p (map is_filled g.cells) solves.meets)
