-- The invariant of the loop of `set_of`: the set has the indices of the true values from `x` on, counted from `x`.
use Rattle.std.proofs.Common.{◌≡◌, ◌+◌, ◌<◌, false, get_or, length, true}
use Rattle.bit_sets.specs.Masks.{IsMaskOf}
use Rattle.survey_text.proofs.goals.set_of.Given as goal

abbrev pub invariant-loop-x : goal.invariant-loop-x
invariant-loop-x g l = IsMaskOf (λ k. (k + l.x < length l.values) × (get_or l.values (k + l.x) false ≡ true)) (g.W.BitSet.bits l.set)
