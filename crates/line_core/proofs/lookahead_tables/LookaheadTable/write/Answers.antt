-- `LookaheadTable::write`: the table holds the line, its lookaheads, and the inert cells that follow from them.
use Rattle.line_core.proofs.Names.{◌∙◌}
use Rattle.std.proofs.lemmas.List.{with_items_is}
use Rattle.line_core.proofs.LookaheadLemmas.{table_made}
use Rattle.line_core.proofs.lookahead_tables.LookaheadTable.write.Goals as goal

pub returns-clause-table : goal.returns-clause-table
returns-clause-table g c =
    let written = c.write_lookaheads.ensures.lookaheads in
    let items = with_items_is c.make_entries.new.lookaheads c.write_lookaheads.new.lookaheads (written.count ∙ c.deref_mut.ensures.len) in
    rw (items, c.copy.ensures) (table_made _ _ _ _ _ written.are
    (c.inert_cells-self-inside.ensures _ (rw (c.deref.ensures.value, items) written.are))
    (c.inert_cells-self-inside-2.ensures _ (rw (c.deref-2.ensures.value, items) written.are)))
