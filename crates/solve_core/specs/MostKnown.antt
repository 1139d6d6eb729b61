-- Which cell the rule of most known neighbours picks.
use Rattle.std.specs.Prelude.{ℕ, ◌<◌, ◌≤◌, List}
use Rattle.grid_core.specs.declared.cells.Cell.{Cell}
use Rattle.grid_core.specs.Lines.{IsUnknownCell}
use Rattle.solve_core.specs.Picks.{known_neighbours}

-- cell `k` of a grid of `width` columns is unknown; no unknown cell has more known neighbours, and
-- each unknown cell before it in row order has fewer. A neighbour outside the grid counts as known
pub record IsMostKnown (width : ℕ) (grid : List Cell) (k : ℕ) : Type 0 where
  pub unknown : IsUnknownCell grid k
  pub most : (j : ℕ) → IsUnknownCell grid j →
      known_neighbours width grid j ≤ known_neighbours width grid k
  pub earliest : (j : ℕ) → j < k → IsUnknownCell grid j →
      known_neighbours width grid j < known_neighbours width grid k
