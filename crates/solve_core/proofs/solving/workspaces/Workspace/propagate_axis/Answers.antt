-- `Workspace::propagate_axis`: deducing a line removes it from the worklist, and adds no line of the same axis.
use Rattle.solve_core.proofs.Names.{true≢false, arith, bit_at-zero, cases_eq, rules}
use Rattle.line_core.proofs.GapRows.{mask_less}
use Rattle.solve_core.proofs.WorkspaceSteps.{later_refl, on-then}
use Rattle.solve_core.proofs.solving.workspaces.Workspace.propagate_axis.Goals as goal
use Rattle.solve_core.proofs.solving.workspaces.Workspace.propagate_axis.Goals.{in-Unchanged, in-Changed}

pub loop-axis-smaller : goal.loop-axis-smaller
loop-axis-smaller g c = mask_less _ _ _ c.first_index-i.ensures.in_mask c.with_bit-left.ensures

pub loop-axis-init : goal.loop-axis-init
loop-axis-init g c = record {
  step = search (rules, later_refl);
  worklist = c.requires;
  alive = λ e. cc;
  left = grind (arith, c.on.ensures, c.intersection-left.ensures);
  within = grind (arith, c.requires.within, c.on.ensures, c.intersection-left.ensures);
}

pub returns-in-Dead-clause-step : goal.returns-in-Dead-clause-step
returns-in-Dead-clause-step g c =
    let kept = c.loop-axis.invariant in on-then _ _ _ _ _ _ kept.alive kept.step c.in-Dead.ensures.step

pub loop-axis-preserved : goal.loop-axis-preserved
loop-axis-preserved g c =
    let kept = c.loop-axis.invariant in
    elim c.match-propagate_line.branch [
      | in-Unchanged w ↦ (
          let step = w.in-Unchanged.ensures.step in
          record {
            step = rw w.effect-is (on-then _ _ _ _ _ _ kept.alive kept.step step);
            worklist = step.step.worklist;
            alive = rw w.effect-is kept.alive;
            left = grind (arith, cases_eq, true≢false, kept.left, w.in-Unchanged.ensures.own, c.with_bit-left.ensures);
            within = rw step.step.later.puzzle (grind (arith, true≢false, kept.within, c.with_bit-left.ensures));
          })
      | in-Changed w ↦ (
          let step = w.in-Changed.ensures.step in
          record {
            step = rw w.effect-is (on-then _ _ _ _ _ _ kept.alive kept.step step);
            worklist = step.step.worklist;
            alive = λ e. cc;
            left = grind (arith, cases_eq, true≢false, kept.left, w.in-Changed.ensures.own, c.with_bit-left.ensures);
            within = rw step.step.later.puzzle (grind (arith, true≢false, kept.within, c.with_bit-left.ensures));
          })
    ]

pub returns-clause-none_dirty : goal.returns-clause-none_dirty
returns-clause-none_dirty g c = λ n i has dirty.
    grind (arith, true≢false, bit_at-zero, c.loop-axis.invariant.left i has dirty, c.is_empty.ensures, c.loop-axis-test.false)
