-- `BitLine::unknown_cells`: a cell is unknown exactly if neither mask has its index.
use Rattle.grid_core.proofs.Names.{◌≡◌, ℕ, ◌<◌, ◌⊎◌, false, arith, nat_tests, Has, has, IsMaskOf, IsUnknownCell, line_cells}
use Rattle.grid_core.proofs.LineCells.{cell_at, length_line}
use Rattle.grid_core.proofs.lines.BitLine.unknown_cells.Goals as goal

-- the mask of the indices below `len` that are in neither mask is that of the unknown cells
unknown_is : (len f b n m : ℕ) → IsMaskOf (λ i. Has f i ⊎ Has b i) n → IsMaskOf (λ i. (i < len) × (has n i ≡ false)) m
    → IsMaskOf (IsUnknownCell (line_cells len f b)) m
unknown_is len f b n m either rest = grind (arith, nat_tests, cell_at len f b, length_line len f b)

pub returns-clause-cells : goal.returns-clause-cells
returns-clause-cells g c = rw (← c.self.view_is) (unknown_is _ _ _ _ _ c.union.ensures c.complement_within.ensures)
