-- `BitLine::with_unknown`: cells whose indices are removed from both masks become unknown, and the others stay as they are.
use Rattle.grid_core.proofs.Names.{◌≡◌, ℕ, false, List, arith, nat_tests, length-map-range_with_len, get_or-map-range_with_len, Cell, Has, has, IsMaskOf, line_cells}
use Rattle.grid_core.proofs.LineCells.{length_seen, line_is, seen_at}
use Rattle.grid_core.specs.Lines.{with_unknown_at}
use Rattle.grid_core.proofs.lines.BitLine.with_unknown.Goals as goal

cells-with_unknown_at : (len f b m nf nb : ℕ) (l : List Cell) → line_cells len f b ≡ l → IsMaskOf (λ i. Has f i × (has m i ≡ false)) nf
    → IsMaskOf (λ i. Has b i × (has m i ≡ false)) nb → line_cells len nf nb ≡ with_unknown_at m l
cells-with_unknown_at len f b m nf nb l e pf pb =
    line_is len nf nb (with_unknown_at m l) (grind (arith, length-map-range_with_len, length_seen len f b l e)) (λ i h.
    grind (
      arith,
      nat_tests,
      get_or-map-range_with_len,
      length_seen len f b l e,
      seen_at len f b i l e,
      pf.to i,
      pf.from i,
      pb.to i,
      pb.from i,
    ))

pub returns-clause-cells : goal.returns-clause-cells
returns-clause-cells g c = cells-with_unknown_at _ _ _ _ _ _ _ c.self.view_is c.difference.ensures c.difference-2.ensures
