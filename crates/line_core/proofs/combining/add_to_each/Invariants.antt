-- The invariant of the loop of `add_to_each`: the support is added to the lookaheads of the cells before an index.
use Rattle.line_core.proofs.Names.{◌<◌, ◌≤◌, AreLookaheadsMore, HasColour}
use Rattle.line_core.proofs.combining.add_to_each.Given as goal

abbrev pub invariant-loop-index : goal.invariant-loop-index
invariant-loop-index g l =
    AreLookaheadsMore l.filled (λ x d k. (l.from ≤ x) × (x < l.index) × HasColour l.support d k) l.fn.lookaheads l.lookaheads
