-- `LineMask::set_all`: each set has the first indices, as many as there are lines on the axis.
use Rattle.solve_core.proofs.Names.{rules}
use Rattle.solve_core.proofs.grids.line_mask.LineMask.set_all.Goals as goal

pub returns : goal.returns
returns g c = search rules
