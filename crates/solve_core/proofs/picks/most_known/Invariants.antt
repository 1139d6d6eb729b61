-- Invariant of the loop of `most_known`: the best cell so far, and the least score that a later one needs.
use Rattle.solve_core.proofs.Names.{◌≡◌, ◌*◌, ◌≤◌, IsUnknownCell, known_neighbours}
use Rattle.solve_core.proofs.PickLaws.{IsFirstMost, least_after}
use Rattle.solve_core.proofs.picks.most_known.Given as goal

-- the best cell of the rows above, and the least score that a later one needs
abbrev pub invariant-loop-y : goal.invariant-loop-y
invariant-loop-y g l =
    let grid = g.G.RowSets.grid l.grid in
    record {
      within : l.y ≤ l.y-end;
      best_is : IsFirstMost (known_neighbours grid.width grid.cells) (IsUnknownCell grid.cells) (l.y * grid.width) l.best;
      least_is : l.least ≡ least_after (known_neighbours grid.width grid.cells) l.best;
    }
