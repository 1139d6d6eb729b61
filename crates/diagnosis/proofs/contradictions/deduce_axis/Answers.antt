-- `deduce_axis`: the first dead line is found, or there is none.
use Rattle.std.proofs.Common.{ap, arith, is_none, length, sym, ◌∙◌}
use Rattle.grid_core.specs.Nonogram.{clues_on}
use Rattle.diagnosis.specs.Contradictions.{is_dead_on}
use Rattle.diagnosis.proofs.FirstFound.{find-range, find-range_none}
use Rattle.diagnosis.proofs.contradictions.deduce_axis.Goals as goal

pub returns-in-None-clause-dead : goal.returns-in-None-clause-dead
returns-in-None-clause-dead c =
    let p = c.args.puzzle.now in
    let dead = is_dead_on c.args.axis p c.args.grid.now.cells in
    sym (find-range dead (length (clues_on c.args.axis p)) c.loop-index.index (omega arith) (ap is_none (sym c.deduced_on.ensures.line ∙ c.in-None.is)) (λ k l. ap is_none (c.loop-index.invariant.2 k l)))

pub returns-clause-dead : goal.returns-clause-dead
returns-clause-dead c =
    let p = c.args.puzzle.now in
    let dead = is_dead_on c.args.axis p c.args.grid.now.cells in
    sym (find-range_none dead (length (clues_on c.args.axis p)) (λ k l. ap is_none (c.loop-index.invariant.2 k (omega arith))))
