-- `ConsistentColours::add`: only the given colour is added, at one cell.
use Rattle.solve_core.proofs.Names.{◌<◌, length}
use Rattle.solve_core.proofs.ConsistencyLaws.{one_more}
use Rattle.solve_core.proofs.records.consistent.ConsistentColours.add.Goals as goal

pub returns-clause-consistent : goal.returns-clause-consistent
returns-clause-consistent g c = λ p cells lx free before.
    let ly : c.args.y < length c.self.inside.rows.items = rw (← c.self.view_is) at c.requires.row in
    one_more p _ c.index_mut.result.now c.add.new.self c.args.x c.args.y c.args.colour cells lx free (rw (← c.self.view_is) at before) ly
    c.index_mut.ensures.value c.add.ensures.only
