-- `are_columns_met`: when the loop ends, the invariant covers all columns.
use Rattle.std.proofs.Common.{refl, arith}
use Rattle.grid_core.proofs.pictures.are_columns_met.Goals as goal

pub returns : goal.returns
returns c = (λ _ x h. c.loop-x.invariant x (omega (arith, c.width.ensures.puzzle.clues.1)), λ _. refl)
