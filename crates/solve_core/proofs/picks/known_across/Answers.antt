-- `known_across`: the two sets count how many neighbours above and below are known or outside the grid, for each cell of the row.
use Rattle.solve_core.proofs.Names.{◌∙◌, two_of}
use Rattle.solve_core.proofs.CountLaws.{above_is, below_is}
use Rattle.solve_core.proofs.picks.known_across.Goals as goal

pub returns : goal.returns
returns g c = λ x h.
    let grid = g.G.RowSets.grid c.args.grid.now in
    let above = rw c.saturating_sub.ensures at (c.known_or_outside-above.ensures.known x h) ∙ above_is grid c.args.y x h in
    let below = rw c.row_count-count.ensures at (c.known_or_outside-below.ensures.known x h)
    ∙ below_is grid c.args.y x c.requires h c.known_or_outside-below.ensures.count in
    c.of.ensures x ∙ (λ i. two_of (above i) (below i))
