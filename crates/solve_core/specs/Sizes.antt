-- Grids of a puzzle's size.
use Rattle.std.specs.Prelude.{◌≡◌, ℕ}
use Rattle.grid_core.specs.PartialGrid.{PartialGrid}
use Rattle.grid_core.specs.Nonogram.{Nonogram}

-- the puzzle `p` has this width and this height
abbrev pub IsSizeOf : Nonogram → ℕ → ℕ → Type 0
IsSizeOf p width height = (width ≡ p.width) × (height ≡ p.height)

-- the grid `g` has the size of the puzzle `p`
abbrev pub HasSizeOf : Nonogram → PartialGrid → Type 0
HasSizeOf p g = IsSizeOf p g.width g.height
