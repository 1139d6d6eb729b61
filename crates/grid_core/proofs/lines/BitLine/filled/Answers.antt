-- `BitLine::filled`: the cells at the indices of the first set are the filled ones.
use Rattle.grid_core.proofs.Names.{◌≡◌, ℕ, ◌<◌, get_or, Unknown, Filled, arith, common_steps, Has, IsMaskOf, line_cells}
use Rattle.grid_core.proofs.LineCells.{cell_at, length_line}
use Rattle.grid_core.proofs.lines.BitLine.filled.Goals as goal

filled_is : (len f b : ℕ) → ((i : ℕ) → Has f i → i < len) → IsMaskOf (λ i. get_or (line_cells len f b) i Unknown ≡ Filled) f
filled_is len f b within = grind (arith, common_steps, cell_at len f b, length_line len f b)

pub returns : goal.returns
returns g c = rw (← c.self.view_is) (filled_is _ _ _ c.self.invariant.filled_in)
