-- `deduced_on`: the line is no longer than the grid's sides.
use Rattle.std.proofs.Common.{arith, ap, length}
use Rattle.diagnosis.proofs.LineReads.{line_fits, line_long}
use Rattle.diagnosis.proofs.contradictions.deduced_on.Goals as goal

pub deduce-requires : goal.deduce-requires
deduce-requires c =
    let g = c.args.grid.now in
    let long = line_long c.args.axis g.width g.height c.args.index g.cells in
    let fits = line_fits c.args.axis g.width g.height c.args.tables.now (omega arith) (omega arith) in
    omega (arith, ap length c.line_of.ensures, long, fits)
