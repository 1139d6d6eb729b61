-- `Board::assign_line`: undoing its entry restores the old cells, and the trail has capacity for it, since a cell was
-- unknown.
use Rattle.solve_core.proofs.Names.{ℕ, ◌≤◌, arith, refl, Axis, Rows, Columns, PartialGrid, crossing, line_count}
use Rattle.solve_core.proofs.BoardSteps.{board-assigned, board-fits, board-trailed}
use Rattle.solve_core.proofs.AssignedLines.{assigned_entry, assigned_replaces}
use Rattle.solve_core.proofs.grids.boards.Board.assign_line.Goals as goal

fits_along : {most : ℕ} (axis : Axis) (g : PartialGrid) → (g.width ≤ most) × (g.height ≤ most)
    → line_count (crossing axis) g.width g.height ≤ most
fits_along Rows g fits = fits.0
fits_along Columns g fits = fits.1

pub replace_line-requires-clause-fits : goal.replace_line-requires-clause-fits
replace_line-requires-clause-fits g c =
    let is = rw (← c.self.view_is) at c.requires in
    let can = assigned_replaces _ _ _ _ c.self.inside.lines _ c.self.invariant.size.width_from c.self.invariant.count is in
    rw can.count (fits_along c.args.axis c.self.inside.lines c.self.invariant.fits)

pub replace_line-requires-clause-can : goal.replace_line-requires-clause-can
replace_line-requires-clause-can g c =
    let is = rw (← c.self.view_is) at c.requires in
    assigned_replaces _ _ _ _ _ _ c.self.invariant.size.width_from c.self.invariant.count is

pub push_reserved-requires : goal.push_reserved-requires
push_reserved-requires g c =
    let is = rw (← c.self.view_is) at c.requires in
    let entry = assigned_entry _ _ _ _ _ _ c.self.invariant.size.width_from c.self.invariant.count is in
    omega (arith, board-fits _ _ _ _ c.self.invariant, entry.2, c.self.invariant.capacity_is)

pub invariant_of-self : goal.invariant_of-self
invariant_of-self g c =
    let is = rw (← c.self.view_is) at c.requires in
    let entry = assigned_entry _ _ _ _ _ _ c.self.invariant.size.width_from c.self.invariant.count is in
    rw c.replace_line.ensures
    (board-assigned _ _ c.self.inside.lines c.self.inside.trail.items c.push_reserved.new.self.items _ _ _
    c.self.invariant refl refl entry.3 c.push_reserved.ensures.items entry.0 entry.1 entry.2 c.push_reserved.ensures.capacity)

pub returns-clause-trail : goal.returns-clause-trail
returns-clause-trail g c =
    let is = rw (← c.self.view_is) at c.requires in
    let entry = assigned_entry _ _ _ _ _ _ c.self.invariant.size.width_from c.self.invariant.count is in
    rw (← c.self.view_is, c.replace_line.ensures)
    (board-trailed _ c.self.inside.lines c.self.inside.trail.items c.push_reserved.new.self.items _ refl refl
    c.push_reserved.ensures.items entry.1 entry.2)
