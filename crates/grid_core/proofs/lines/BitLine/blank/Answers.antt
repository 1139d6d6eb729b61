-- `BitLine::blank`: the cells at the indices of the second set are the blank ones.
use Rattle.grid_core.proofs.Names.{◌≡◌, ℕ, ◌<◌, get_or, Unknown, Blank, arith, common_steps, Has, IsMaskOf, line_cells}
use Rattle.grid_core.proofs.LineCells.{cell_at, length_line}
use Rattle.grid_core.proofs.lines.BitLine.blank.Goals as goal

blank_is : (len f b : ℕ) → ((i : ℕ) → Has f i → Has b i → ⊥) → ((i : ℕ) → Has b i → i < len)
    → IsMaskOf (λ i. get_or (line_cells len f b) i Unknown ≡ Blank) b
blank_is len f b apart within = grind (arith, common_steps, cell_at len f b, length_line len f b)

pub returns : goal.returns
returns g c = rw (← c.self.view_is) (blank_is _ _ _ c.self.invariant.apart c.self.invariant.blank_in)
