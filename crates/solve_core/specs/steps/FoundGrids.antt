-- The solutions that a search has found.
use Rattle.std.specs.Prelude.{ℕ, List}
use Rattle.grid_core.specs.PartialGrid.{PartialGrid}

-- the solutions found, and the width and the height of each
pub record FoundGrids : Type 0 where
  pub width : ℕ
  pub height : ℕ
  pub grids : List PartialGrid
