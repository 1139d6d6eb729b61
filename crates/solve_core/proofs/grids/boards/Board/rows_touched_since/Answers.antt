-- `Board::rows_touched_since`: the entries from `checkpoint` on are entries of the board's grid.
use Rattle.solve_core.proofs.Names.{inl, inr, IsEntryOf}
use Rattle.std.proofs.lemmas.List.{take_rest}
use Rattle.solve_core.proofs.TrailSteps.{all_at, all_drop}
use Rattle.solve_core.proofs.grids.boards.Board.rows_touched_since.Goals as goal

pub loop-entry-preserved : goal.loop-entry-preserved
loop-entry-preserved g c = λ w h y all has. elim (c.union-rows.ensures.to y has) [
  | inl before ↦ c.loop-entry.invariant w h y all before
  | inr new ↦ c.rows.ensures w h y (rw c.entry-item.is (all_at (IsEntryOf w h) _ c.loop-entry.entry-index _ all c.loop-entry-test.true)) new
]

pub returns : goal.returns
returns g c =
    let b = c.self.inside in
    let all = all_drop (IsEntryOf b.lines.width b.lines.height) c.args.checkpoint b.trail.items c.self.invariant.entries_are in
    rw (← c.self.view_is) (λ y has. c.loop-entry.invariant b.lines.width b.lines.height y (rw (take_rest, c.deref.ensures.value) all) has)
