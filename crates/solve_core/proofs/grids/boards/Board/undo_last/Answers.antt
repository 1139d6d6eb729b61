-- `Board::undo_last`: the board without its last entry satisfies the invariant.
use Rattle.solve_core.proofs.Names.{◌∙◌, ◌++◌, ◌∷◌, [], ap, sym, Cell, List, LineEntry, with_line, with_unknown_at}
use Rattle.solve_core.proofs.BoardSteps.{board-undone, last_entry}
use Rattle.solve_core.proofs.AssignedLines.{undone_replaces}
use Rattle.solve_core.proofs.grids.boards.Board.undo_last.Goals as goal

pub replace_line-requires-clause-can : goal.replace_line-requires-clause-can
replace_line-requires-clause-can g c =
    let b = c.self.inside in
    let e = c.entry.inside in
    let s : LineEntry = record { axis = e.axis; line = e.line; changes = g.W.BitSet.bits e.changes } in
    rw (c.with_unknown-line.ensures.cells, c.line-line.ensures.cells) (undone_replaces b.lines s
    (last_entry _ b.lines b.trail.items c.pop.new.self.items s _ (c.in-Some.ensures.items
    ∙ ap (λ (s : LineEntry). c.pop.new.self.items ++ s ∷ []) (sym c.entry.view_is)) c.self.invariant))

pub invariant_of-self-2 : goal.invariant_of-self-2
invariant_of-self-2 g c =
    let b = c.self.inside in
    let e = c.entry.inside in
    let s : LineEntry = record { axis = e.axis; line = e.line; changes = g.W.BitSet.bits e.changes } in
    board-undone _ c.replace_line.new.self b.lines b.trail.items c.pop.new.self.items s _ _ c.self.invariant
    (c.in-Some.ensures.items ∙ ap (λ (s : LineEntry). c.pop.new.self.items ++ s ∷ []) (sym c.entry.view_is))
    (c.replace_line.ensures ∙ ap (λ (line : List Cell). with_line b.lines e.axis e.line line) (c.with_unknown-line.ensures.cells ∙
    ap (λ (line : List Cell). with_unknown_at s.changes line) c.line-line.ensures.cells)) c.pop.ensures.capacity
