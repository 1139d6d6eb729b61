-- `LookaheadTables::reset`: new buffers leave the tables as they are.
use Rattle.solve_core.proofs.deducing.lookahead_tables.LookaheadTables.reset.Goals.{then-max_runs+in_ok-self-inside, else-max_runs}
use Rattle.solve_core.proofs.deducing.lookahead_tables.LookaheadTables.reset.Goals as goal

pub add_tables-requires : goal.add_tables-requires
add_tables-requires g c =
    let empty = rw (← c.self.view_is) at c.clear.ensures in
    elim c.if-max_runs.branch [
      | then-max_runs+in_ok-self-inside w ↦ rw w.self-inside-is empty
      | else-max_runs w ↦ rw w.self-inside-is empty
    ]
