-- `BitLine::assign`: the index is added to one mask; the other doesn't have it, since the cell was unknown.
use Rattle.grid_core.proofs.Names.{arith, nat_tests}
use Rattle.grid_core.proofs.LineCells.{cells-set, seen_at}
use Rattle.grid_core.proofs.lines.BitLine.assign.Goals as goal

pub returns-then-is_filled : goal.returns-then-is_filled
returns-then-is_filled g c =
    let was = seen_at _ _ _ c.args.i _ c.self.view_is c.requires.i in
    let marked = c.with_bit-self-inside.ensures in
    cells-set _ _ _ _ _ c.args.i c.args.cell _ c.self.view_is c.requires.i (λ i l. grind (arith, nat_tests, marked.to i, marked.from i))

pub returns-else-is_filled : goal.returns-else-is_filled
returns-else-is_filled g c =
    let was = seen_at _ _ _ c.args.i _ c.self.view_is c.requires.i in
    let marked = c.with_bit-self-inside-else-is_filled.ensures in
    cells-set _ _ _ _ _ c.args.i c.args.cell _ c.self.view_is c.requires.i (λ i l. grind (arith, nat_tests, marked.to i, marked.from i))
