-- `Grid::known`: when the loop ends, the count covers all cells.
use Rattle.grid_core.proofs.Names.{arith, common_steps, take_all}
use Rattle.grid_core.proofs.grids.Grid.known.Goals as goal

pub returns : goal.returns
returns c =
    let past = rw (c.from.ensures, c.width.ensures.width, c.from-2.ensures, c.height.ensures) at c.loop-index-test.false in
    rw (take_all c.loop-index.index c.args.self.now.cells (omega (arith, c.width.ensures.cells))) at c.loop-index.invariant

pub loop-index-preserved : goal.loop-index-preserved
loop-index-preserved c = grind (arith, common_steps)
