-- `Workspace::propagate_lines`: if a pass over the columns changes nothing, no row became dirty since the pass over the
-- rows.
use Rattle.solve_core.proofs.Names.{◌≢◌, Dead, Unchanged, refl, sym, true≢false}
use Rattle.solve_core.proofs.WorkspaceSteps.{none_dirty, step-from}
use Rattle.solve_core.proofs.solving.workspaces.Workspace.propagate_lines.Goals as goal

not_dead : Unchanged ≢ Dead
not_dead e = cc

pub returns-in-Dead : goal.returns-in-Dead
returns-in-Dead g c =
    let kept = c.loop-self.invariant in
    let row = step-from _ _ _ _ kept.later kept.closed c.in-Dead.ensures.step.step in
    record {
      later = row.0;
      dead = λ e. row.1 refl;
      kept = λ t. absurd (true≢false (sym t));
      worklist = λ t. absurd (true≢false (sym t));
      none_dirty = λ t. absurd (true≢false (sym t));
    }

pub returns-in-Dead-propagate_axis : goal.returns-in-Dead-propagate_axis
returns-in-Dead-propagate_axis g c =
    let kept = c.loop-self.invariant in
    let row = step-from _ _ _ _ kept.later kept.closed c.propagate_axis.ensures.step.step in
    let column = step-from _ _ _ _ row.0 (row.2 c.in_default.not-Dead).0 c.in-Dead-propagate_axis.ensures.step.step in
    record {
      later = column.0;
      dead = λ e. column.1 refl;
      kept = λ t. absurd (true≢false (sym t));
      worklist = λ t. absurd (true≢false (sym t));
      none_dirty = λ t. absurd (true≢false (sym t));
    }

pub returns-in-Unchanged : goal.returns-in-Unchanged
returns-in-Unchanged g c =
    let kept = c.loop-self.invariant in
    let row = step-from _ _ _ _ kept.later kept.closed c.propagate_axis.ensures.step.step in
    let last = c.in-Unchanged.ensures in
    let column = step-from _ _ _ _ row.0 (row.2 c.in_default.not-Dead).0 last.step.step in
    record {
      later = column.0;
      dead = λ e. absurd (true≢false e);
      kept = λ t. (column.2 not_dead).0;
      worklist = λ t. (column.2 not_dead).1;
      none_dirty = λ t. none_dirty c.args.lines.now c.propagate_axis.new.self.dirty _
          (rw c.on.ensures at (c.propagate_axis.ensures.none_dirty c.in_default.not-Dead)) (last.step.same refl)
          (rw c.on-in-loop-self.ensures at (last.none_dirty not_dead));
    }

pub loop-self-preserved : goal.loop-self-preserved
loop-self-preserved g c =
    let kept = c.loop-self.invariant in
    let row = step-from _ _ _ _ kept.later kept.closed c.propagate_axis.ensures.step.step in
    let column = step-from _ _ _ _ row.0 (row.2 c.in_default.not-Dead).0 c.in-Changed.ensures.step.step in
    let closed = column.2 (λ e. cc) in
    record { later = column.0; worklist = closed.1; closed = closed.0 }
