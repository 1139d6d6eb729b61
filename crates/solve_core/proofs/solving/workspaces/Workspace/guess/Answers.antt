-- `Workspace::guess`: the board is closed from the assigned cell, by its conflict lines first.
use Rattle.solve_core.proofs.Names.{◌∙◌, sym, true≢false}
use Rattle.solve_core.proofs.WorkspaceSteps.{closes-dead, guess-closes, guess-dead}
use Rattle.solve_core.proofs.solving.workspaces.Workspace.guess.Goals as goal
use Rattle.solve_core.proofs.solving.workspaces.Workspace.guess.Goals.{then-propagate_lines, else-propagate_lines}

pub returns-then-not-alive : goal.returns-then-not-alive
returns-then-not-alive g c = rw c.if-not-alive.true (elim c.if-propagate_lines.branch [
  | then-propagate_lines w ↦ (
      let closes = rw (sym w.alive-is ∙ c.if-not-alive.true) at (guess-closes _ _ _ _ _ _ _ _ c.assign_and_enqueue.ensures
      w.if-propagate_lines.ensures w.propagate-alive.ensures) in
      closes-dead _ _ _ _ _ (c.self-3.view_is ∙ w.self-is) closes.later (sym closes.closed) c.none-self-inside.ensures)
  | else-propagate_lines w ↦ (
      let dead = guess-dead _ _ _ _ _ _ c.assign_and_enqueue.ensures w.if-propagate_lines.ensures in
      closes-dead _ _ _ _ _ (c.self-3.view_is ∙ w.self-is) dead.0 dead.1 c.none-self-inside.ensures)
])

pub returns-else-not-alive : goal.returns-else-not-alive
returns-else-not-alive g c = elim c.if-propagate_lines.branch [
  | then-propagate_lines w ↦ rw (w.alive-is, w.self-is) (guess-closes _ _ _ _ _ _ _ _ c.assign_and_enqueue.ensures
      w.if-propagate_lines.ensures w.propagate-alive.ensures)
  | else-propagate_lines w ↦ absurd (true≢false (sym c.if-not-alive.false ∙ w.alive-is ∙ w.if-propagate_lines.false))
]
