-- `known_or_outside`: outside the set of the unknown cells of a row are the known ones.
use Rattle.solve_core.proofs.Names.{arith, ◌∙◌}
use Rattle.solve_core.proofs.CountLaws.{known_is, complement_is}
use Rattle.solve_core.proofs.picks.known_or_outside.Goals as goal

pub returns-else-outside-clause-known : goal.returns-else-outside-clause-known
returns-else-outside-clause-known g c = λ x h.
    rw c.if-outside.false (complement_is _ _ _ x c.complement_within.ensures (omega (arith, h, c.row_len-len.ensures.len))
    ∙ known_is _ _ _ x c.unknown_in_row.ensures c.row_len-len.ensures.count (c.requires c.if-outside.false) h)
