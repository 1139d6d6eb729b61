-- `GridLines::reset`: unknown rows and columns are the lines of the unknown grid.
use Rattle.solve_core.proofs.Names.{length-replicate, rules}
use Rattle.solve_core.proofs.GridLineSteps.{lines-unknown}
use Rattle.solve_core.proofs.grids.grid_lines.GridLines.reset.Goals as goal

pub invariant_of-self : goal.invariant_of-self
invariant_of-self g c =
    (lines-unknown c.args.width c.args.height _ _ c.requires.size c.fill_with_unknown.ensures.lines c.fill_with_unknown-2.ensures.lines).1

pub returns : goal.returns
returns g c = search (rules, lines-unknown, length-replicate)
