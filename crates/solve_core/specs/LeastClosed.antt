-- The least grid that a step (a round, or a round of trials) leaves unchanged.
use Rattle.std.specs.Prelude.{◌≡◌, List, Option, Some}
use Rattle.grid_core.specs.declared.cells.Cell.{Cell}
use Rattle.grid_core.specs.Cells.{Extends}
use Rattle.line_core.specs.Order.{AtMost}

-- `c` is the least grid that `step` leaves unchanged and that extends `g`; it is `None`, dead, if
-- there is no such grid
pub record IsLeastClosed
    (step : List Cell → Option (List Cell)) (g : List Cell) (c : Option (List Cell)) : Type 0 where
  pub above : AtMost (Some g) c
  pub closed : (z : List Cell) → c ≡ Some z → step z ≡ Some z
  pub least : (z : List Cell) → step z ≡ Some z → Extends g z → AtMost c (Some z)
