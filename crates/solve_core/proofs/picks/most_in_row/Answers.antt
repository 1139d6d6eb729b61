-- `most_in_row`: the four sets count how many neighbours are known or outside the grid, for each cell of the row.
use Rattle.solve_core.proofs.Names.{◌∙◌, ◌+◌, arith}
use Rattle.solve_core.proofs.CountLaws.{highest_by, neighbours_are}
use Rattle.solve_core.proofs.picks.most_in_row.Goals as goal

pub returns : goal.returns
returns g c =
    let grid = g.G.RowSets.grid c.args.grid.now in
    highest_by _ _ _ _ c.args.least c.first_in_most_sets.result c.unknown_in_row-unknown.ensures
    (λ x u. (λ i. c.known_beside-beside.ensures x (omega (arith, u, c.row_len-len.ensures.len)) i + c.known_across.ensures x u.0 i)
    ∙ neighbours_are grid c.args.y _ x c.unknown_in_row-unknown.ensures c.row_len-len.ensures.count c.requires u.0)
    c.first_in_most_sets.ensures
