-- `BitLine::set`: the cell is written to both masks.
use Rattle.grid_core.proofs.Names.{arith, nat_tests}
use Rattle.grid_core.proofs.LineCells.{cell_itself, cells-set}
use Rattle.grid_core.proofs.lines.BitLine.set.Goals as goal

pub returns : goal.returns
returns g c =
    let filled = c.with_bit-self-inside.ensures in
    let blank = c.with_bit-self-inside-2.ensures in
    cells-set _ _ _ _ _ c.args.i c.args.cell _ c.self.view_is c.requires (λ i l.
    grind (arith, nat_tests, cell_itself, c.is_filled.ensures, c.is_blank.ensures, filled.to i, filled.from i, blank.to i, blank.from i))
