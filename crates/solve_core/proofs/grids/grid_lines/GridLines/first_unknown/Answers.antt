-- `GridLines::first_unknown`: all cells passed are known, so the first unknown cell of a row is that of the grid.
use Rattle.std.proofs.lemmas.Nat.{row_fits_turned}
use Rattle.solve_core.proofs.Names.{◌≡◌, ℕ, ◌+◌, ◌*◌, ◌<◌, ◌≤◌, false, List, length, get_or, refl, arith, false_from_ne_true, Cell, Unknown, is_unknown, Has, IsUnknownCell}
use Rattle.solve_core.proofs.GridLineSteps.{passed}
use Rattle.solve_core.proofs.SearchLaws.{unknown_is}
use Rattle.solve_core.proofs.grids.grid_lines.GridLines.first_unknown.Goals as goal

-- the cells up to column `end` of row `y` are known, if those up to `column` are, and none from there on is unknown
known_before : (cells : List Cell) (w y column end from near : ℕ) → y * w + end ≤ length cells → end ≤ w →
    ((x : ℕ) → x < w → IsUnknownCell cells (y * w + x) → Has near x) → ((x : ℕ) → column ≤ x → x < end → Has near x → ⊥) →
    ((k : ℕ) → from ≤ k → k < y * w + column → is_unknown (get_or cells k Unknown) ≡ false) →
    (k : ℕ) → from ≤ k → k < y * w + end → is_unknown (get_or cells k Unknown) ≡ false
known_before cells w y column end from near here within each none before =
    passed (λ k. is_unknown (get_or cells k Unknown) ≡ false) w y column end from before (λ x low high. false_from_ne_true _
    (λ e. none x low high (each x (omega (arith, high, within)) (omega (arith, high, here), unknown_is _ e))))

pub returns-in-Some : goal.returns-in-Some
returns-in-Some g c =
    let found = c.in-Some.ensures in
    let at = c.cells_by_known_neighbours.ensures.unknown c.in-Some.x found.2 in
    rw (c.from.ensures, c.width-width.ensures.width) (
      omega (arith, rw c.width-width.ensures.width at c.loop-y.invariant.from, found.0),
      at.1.0,
      at.1.1,
      known_before c.args.self.now.cells c.args.self.now.width c.loop-y.y c.loop-y.column c.in-Some.x c.args.from _ (omega (arith, at.1.0))
          (omega (arith, at.0)) (c.cells_by_known_neighbours.ensures.each refl) found.3
          (rw c.width-width.ensures.width at c.loop-y.invariant.known),
    )

pub loop-y-preserved : goal.loop-y-preserved
loop-y-preserved g c =
    let w = c.width-width.result in
    let next : (c.loop-y.y + 1) * w + 0 ≡ c.loop-y.y * w + w = omega arith in
    let here : c.loop-y.y * w + w ≤ length c.args.self.now.cells =
    rw (c.width-width.ensures.width, c.width-width.ensures.count) (row_fits_turned c.loop-y.y c.args.self.now.width c.args.self.now.width
    c.args.self.now.height (omega (arith, c.loop-y-test.true, c.height-y-end.ensures)) (omega arith)) in
    rw next (record {
      column = omega (arith, c.width-width.ensures.width, c.width-width.ensures.size.width_from);
      from = omega (arith, c.loop-y.invariant.from, c.loop-y.invariant.column);
      known = known_before c.args.self.now.cells w c.loop-y.y c.loop-y.column w c.args.from _ here (omega arith)
          (rw (← c.width-width.ensures.width) at (c.cells_by_known_neighbours.ensures.each refl))
          (λ x low high.
          c.in_default.ensures x low (omega (arith, c.cells_by_known_neighbours.ensures.fits, c.width-width.ensures.width, high)))
          c.loop-y.invariant.known;
    })
