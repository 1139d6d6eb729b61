-- `read_line`: a list that has, at each index, the cell at that position of a line is the list of the line's cells.
use Rattle.grid_core.proofs.Names.{false, length, arith, values_of}
use Rattle.grid_core.proofs.LineLaws.{cells-along}
use Rattle.grid_core.proofs.pictures.read_line.Goals as goal

pub returns : goal.returns
returns c =
    cells-along false (values_of c.args.picture) c.loop-i.line c.args.first c.args.step (length c.args.line.now) c.loop-i.invariant.size
    (λ k l. c.loop-i.invariant.read k (omega (arith, c.loop-i-test.false, c.loop-i.auto.i-end)))
