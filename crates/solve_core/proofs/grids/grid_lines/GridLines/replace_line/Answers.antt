-- `GridLines::replace_line`: the written line, and the lines that cross it at its changes, are the lines of one grid.
use Rattle.solve_core.proofs.Names.{rules, ◌∙◌, ◌<◌, refl, sym, ap, arith, length, with_items_is, Rows, Columns}
use Rattle.solve_core.proofs.GridLineSteps.{line_read, lines-long}
use Rattle.solve_core.proofs.AssignedLines.{can_write, replaced_columns, replaced_rows, replaces_at}
use Rattle.solve_core.proofs.grids.grid_lines.GridLines.replace_line.Goals as goal

pub copy_from-requires : goal.copy_from-requires
copy_from-requires g c =
    let is = replaces_at Rows c.self.view_is c.in-Rows.is c.requires.can in
    let here : c.from-place.result < length c.self.inside.rows.items = omega (arith, c.from-place.ensures, is.line) in
    is.count ∙ sym (ap length (c.index_mut.ensures.value ∙ line_read _ _ _ here)
    ∙ (lines-long _ _ 0 c.from-place.result c.self.invariant c.self.invariant.size.width_from here).0)

pub write_changes-requires-clause-within : goal.write_changes-requires-clause-within
write_changes-requires-clause-within g c =
    let is = replaces_at Rows c.self.view_is c.in-Rows.is c.requires.can in
    λ k has. omega (arith, is.within k has, is.count, c.requires.fits)

pub write_changes-requires-clause-cells : goal.write_changes-requires-clause-cells
write_changes-requires-clause-cells g c =
    let is = replaces_at Rows c.self.view_is c.in-Rows.is c.requires.can in
    rw c.deref_mut.ensures.value (can_write Rows _ _ _ _ _ _ c.self.invariant.size.width_from c.self.invariant.count is
    c.self.inside.columns.items (refl, c.self.invariant.columns_are))

pub invariant_of-self : goal.invariant_of-self
invariant_of-self g c =
    let replaced = replaced_rows _ _ _ _ _ _ c.write_changes.new.lines c.self.invariant
    (replaces_at Rows c.self.view_is c.in-Rows.is c.requires.can) c.deref_mut.ensures.value
    c.write_changes.ensures.len c.write_changes.ensures.changed c.write_changes.ensures.others in
    search (rules, replaced, with_items_is)

pub returns-in-Rows : goal.returns-in-Rows
returns-in-Rows g c =
    let replaced = replaced_rows _ _ _ _ _ _ c.write_changes.new.lines c.self.invariant
    (replaces_at Rows c.self.view_is c.in-Rows.is c.requires.can) c.deref_mut.ensures.value
    c.write_changes.ensures.len c.write_changes.ensures.changed c.write_changes.ensures.others in
    rw (← c.self.view_is, c.in-Rows.is) (search (rules, replaced, with_items_is))

pub copy_from-requires-in-Columns : goal.copy_from-requires-in-Columns
copy_from-requires-in-Columns g c =
    let is = replaces_at Columns c.self.view_is c.in-Columns.is c.requires.can in
    let here : c.from-place.result < length c.self.inside.columns.items = omega (arith, c.from-place.ensures, is.line) in
    is.count ∙ sym (ap length (c.index_mut-in-Columns.ensures.value ∙ line_read _ _ _ here)
    ∙ (lines-long _ _ c.from-place.result 0 c.self.invariant here c.self.invariant.size.height_from).1)

pub write_changes-requires-in-Columns-clause-within : goal.write_changes-requires-in-Columns-clause-within
write_changes-requires-in-Columns-clause-within g c =
    let is = replaces_at Columns c.self.view_is c.in-Columns.is c.requires.can in
    λ k has. omega (arith, is.within k has, is.count, c.requires.fits)

pub write_changes-requires-in-Columns-clause-cells : goal.write_changes-requires-in-Columns-clause-cells
write_changes-requires-in-Columns-clause-cells g c =
    let is = replaces_at Columns c.self.view_is c.in-Columns.is c.requires.can in
    rw c.deref_mut-in-Columns.ensures.value (can_write Columns _ _ _ _ _ _ c.self.invariant.size.width_from c.self.invariant.count is
    c.self.inside.rows.items (refl, c.self.invariant.rows_are))

pub invariant_of-self-in-Columns : goal.invariant_of-self-in-Columns
invariant_of-self-in-Columns g c =
    let replaced = replaced_columns _ _ _ _ _ _ c.write_changes-in-Columns.new.lines c.self.invariant
    (replaces_at Columns c.self.view_is c.in-Columns.is c.requires.can) c.deref_mut-in-Columns.ensures.value
    c.write_changes-in-Columns.ensures.len c.write_changes-in-Columns.ensures.changed c.write_changes-in-Columns.ensures.others in
    search (rules, replaced, with_items_is)

pub returns-in-Columns : goal.returns-in-Columns
returns-in-Columns g c =
    let replaced = replaced_columns _ _ _ _ _ _ c.write_changes-in-Columns.new.lines c.self.invariant
    (replaces_at Columns c.self.view_is c.in-Columns.is c.requires.can) c.deref_mut-in-Columns.ensures.value
    c.write_changes-in-Columns.ensures.len c.write_changes-in-Columns.ensures.changed c.write_changes-in-Columns.ensures.others in
    rw (← c.self.view_is, c.in-Columns.is) (search (rules, replaced, with_items_is))
