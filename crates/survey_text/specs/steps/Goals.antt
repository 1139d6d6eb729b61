-- When the values of a goal show a grid, and when a solution is the only one.
use Rattle.std.specs.Prelude.{◌≡◌, ℕ, ◌+◌, ◌*◌, ◌<◌, Bool, List, length, slice_index_or, false}
use Rattle.grid_core.specs.declared.cells.Cell.{Cell}
use Rattle.grid_core.specs.declared.cells.Cell.TheVariants.{Unknown}
use Rattle.grid_core.specs.Cells.{is_filled}
use Rattle.grid_core.specs.Nonogram.{Nonogram, Solves}
use Rattle.grid_core.specs.PartialGrid.{PartialGrid, cell_at}
use Rattle.solve_core.specs.declared.findings.Verdict.{Verdict}
use Rattle.solve_core.specs.declared.findings.Verdict.TheVariants.{Nothing, One, Several, Unsettled}

-- `values` is true exactly at the filled ones of `cells`
abbrev pub AreColours : List Cell → List Bool → Type 0
AreColours cells values = (x : ℕ) → x < length cells
    → slice_index_or values x false ≡ is_filled (slice_index_or cells x Unknown)

-- in row `y` of `grid`, `values`, which are in row order, is true exactly at the filled cells
abbrev pub IsRowShown : PartialGrid → List Bool → ℕ → Type 0
IsRowShown grid values y = (x : ℕ) → x < grid.width
    → slice_index_or values (y * grid.width + x) false ≡ is_filled (cell_at grid x y)

-- `solution` solves `p`, and no other grid does
pub record IsOnlySolution (p : Nonogram) (solution : PartialGrid) : Type 0 where
  pub solves : Solves p solution
  pub only : (grid : PartialGrid) → Solves p grid → grid ≡ solution

-- if the verdict on `p` is `One`, its grid is the only solution of `p`
abbrev pub IsOnlyWhereOne : Nonogram → Verdict → Type 0
IsOnlyWhereOne p Nothing = Unit {0}
IsOnlyWhereOne p (One solution) = IsOnlySolution p solution
IsOnlyWhereOne p (Several first second) = Unit {0}
IsOnlyWhereOne p (Unsettled found) = Unit {0}
