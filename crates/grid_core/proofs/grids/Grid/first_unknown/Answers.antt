-- `Grid::first_unknown`: the first unknown cell of the first row that has one is that of the grid.
use Rattle.grid_core.proofs.Names.{◌≡◌, ◌≤◌, ◌*◌, ap, length, refl, sym, arith, mul-le-mul_left, PartialGrid}
use Rattle.grid_core.proofs.FirstUnknown.{first_in_row, known-row, position_none}
use Rattle.grid_core.proofs.StoredRows.{count-cells}
use Rattle.grid_core.proofs.grids.Grid.first_unknown.Goals as goal

pub returns-in-Some : goal.returns-in-Some
returns-in-Some c =
    let tall = ap (λ (g : PartialGrid). g.height) c.self.view_is in
    sym (first_in_row c.args.self.now c.loop-y.y c.in-Some.x _ c.row.ensures.row (omega arith) c.row.ensures.count
    c.loop-y.invariant c.in-Some.ensures)

pub loop-y-preserved : goal.loop-y-preserved
loop-y-preserved c = known-row c.args.self.now c.loop-y.y _ c.row.ensures.row c.in_default.ensures c.loop-y.invariant

pub returns : goal.returns
returns c =
    let g = c.args.self.now in
    let tall = ap (λ (g : PartialGrid). g.height) c.self.view_is in
    let count : length g.cells ≡ g.width * g.height = rw (← c.self.view_is) (count-cells _ _ _ c.self.invariant.1.written) in
    let high : g.height ≤ c.loop-y.y = omega arith in
    let more = mul-le-mul_left g.width high in
    rw (position_none g.cells (λ k l. c.loop-y.invariant k (omega arith))) refl
