-- `LookaheadTables::ensure`: the table of the line is one for its clue, and the others are unchanged.
use Rattle.line_core.specs.Lookahead.{no_table}
use Rattle.solve_core.proofs.TableSteps.{one_written}
use Rattle.solve_core.proofs.deducing.lookahead_tables.LookaheadTables.ensure.Goals as goal

pub write-requires-clause-table : goal.write-requires-clause-table
write-requires-clause-table g c = rw (c.in-Some.ensures.item.3.1 no_table, c.from.ensures, c.self.view_is) c.requires.table

pub returns-in-Some : goal.returns-in-Some
returns-in-Some g c = λ clues is before.
    rw c.from.ensures (one_written clues _ c.args.k _ (rw (← c.self.view_is) at before) (rw is c.write.ensures.table))
