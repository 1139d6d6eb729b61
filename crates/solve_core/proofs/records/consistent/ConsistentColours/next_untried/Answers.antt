-- `ConsistentColours::next_untried`: if `least` is 0, all unknown cells of a row are candidates, so that those passed have both
-- colours recorded.
use Rattle.solve_core.proofs.Names.{◌≡◌, ◌+◌, ◌*◌, arith}
use Rattle.solve_core.proofs.ConsistencyLaws.{tried_before}
use Rattle.solve_core.proofs.records.consistent.ConsistentColours.next_untried.Goals as goal

pub returns-in-Some-clause-passed : goal.returns-in-Some-clause-passed
returns-in-Some-clause-passed g c = λ all zero.
    let found = c.in-Some.ensures in
    let at = c.cells_by_known_neighbours.ensures.unknown _ (c.difference-untried.ensures.to _ found.2).0 in
    rw (c.from.ensures, c.width-width.ensures.width) (tried_before c.args.self.now c.args.lines.now.cells c.args.lines.now.width c.loop-y.y
    c.loop-y.column c.in-Some.x c.args.from _ _ _ (omega (arith, at.0))
    (c.cells_by_known_neighbours.ensures.each zero) (c.settled.ensures all) c.difference-untried.ensures found.3
    (rw c.width-width.ensures.width at (c.loop-y.invariant.passed all zero)))

pub loop-y-preserved : goal.loop-y-preserved
loop-y-preserved g c =
    let w = c.width-width.result in
    let next : (c.loop-y.y + 1) * w + 0 ≡ c.loop-y.y * w + w = omega arith in
    rw next (record {
      column = omega (arith, c.width-width.ensures.width, c.width-width.ensures.size.width_from);
      from = omega (arith, c.loop-y.invariant.from, c.loop-y.invariant.column);
      passed = λ all zero. tried_before c.args.self.now c.args.lines.now.cells w c.loop-y.y c.loop-y.column w c.args.from _ _ _
          (omega arith) (rw (← c.width-width.ensures.width) at (c.cells_by_known_neighbours.ensures.each zero)) (c.settled.ensures all)
          c.difference-untried.ensures
          (λ x low high.
          c.in_default.ensures x low (omega (arith, c.cells_by_known_neighbours.ensures.fits, c.width-width.ensures.width, high)))
          (c.loop-y.invariant.passed all zero);
    })
