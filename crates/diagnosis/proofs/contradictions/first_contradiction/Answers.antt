-- `first_contradiction`: one round more, or one that shows a contradiction.
use Rattle.std.proofs.Common.{◌+◌, ◌*◌, ◌<◌, ◌≤◌, arith, length, sym, ◌∙◌}
use Rattle.std.proofs.lemmas.List.{length-replicate}
use Rattle.grid_core.specs.declared.cells.Cell.TheVariants.{Unknown}
use Rattle.solve_core.specs.Report.{unknown_grid}
use Rattle.diagnosis.specs.Contradictions.{first_contradiction}
use Rattle.diagnosis.proofs.RoundLaws.{contradiction-dead}
use Rattle.diagnosis.proofs.RoundSteps.{within-end, within-found, within-step}
use Rattle.diagnosis.proofs.contradictions.first_contradiction.Goals as goal

pub returns-in-Some : goal.returns-in-Some
returns-in-Some c =
    let p = c.args.puzzle.now in
    let size = length-replicate (p.width * p.height) Unknown in
    let within : c.loop.counter < length (unknown_grid p) + 1 = grind (arith, size) in
    sym (within-found p (length (unknown_grid p) + 1) c.loop.counter c.loop.rounds.grid.cells c.in-Some.contradiction (first_contradiction p) within
    (sym c.in_ok-contradiction.ensures.contradiction ∙ c.in-Some.is) c.loop.invariant.1)

pub loop-preserved : goal.loop-preserved
loop-preserved c =
    let p = c.args.puzzle.now in
    let size = length-replicate (p.width * p.height) Unknown in
    let within : c.loop.counter < length (unknown_grid p) + 1 = grind (arith, size) in (
      c.in_ok-contradiction.ensures.rounds,
      within-step p (length (unknown_grid p) + 1) c.loop.counter c.loop.rounds.grid.cells c.round.new.self.grid.cells (first_contradiction p)
          within (sym c.in_ok-contradiction.ensures.contradiction ∙ c.in_default.is) (c.in_ok-contradiction.ensures.grid c.in_default.is)
          c.loop.invariant.1,
    )

pub unreachable-requires : goal.unreachable-requires
unreachable-requires c =
    let p = c.args.puzzle.now in
    let size = length-replicate (p.width * p.height) Unknown in
    let over : length (unknown_grid p) + 1 ≤ c.loop.counter = grind (arith, size) in
    contradiction-dead p c.loop.invariant.0.puzzle c.requires
    (sym (within-end p (length (unknown_grid p) + 1) c.loop.counter c.loop.rounds.grid.cells (first_contradiction p) over c.loop.invariant.1))
