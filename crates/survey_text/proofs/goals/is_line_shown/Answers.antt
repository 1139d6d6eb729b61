-- `is_line_shown`: the two sets agree on all indices of the line exactly if the values are true exactly at its filled cells.
use Rattle.std.proofs.Common.{arith}
use Rattle.std.proofs.lemmas.Bool.{cases_lt, eqb-true, eq-eqb}
use Rattle.grid_core.proofs.LineCells.{has_by}
use Rattle.bit_sets.proofs.WordSteps.{some_index}
use Rattle.solve_core.proofs.Changes.{none_in}
use Rattle.survey_text.proofs.goals.is_line_shown.Goals as goal

pub returns : goal.returns
returns g c =
    let bits = g.W.BitSet.bits in
    let differing = bits c.intersection.result in (
      λ none i low. grind (arith, has_by (bits c.set_of.result) i, none_in, eqb-true),
      λ shown. grind (arith, cases_lt 0 differing, some_index differing, has_by, eq-eqb),
    )
