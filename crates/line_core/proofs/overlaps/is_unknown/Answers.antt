-- `is_unknown`: no cell is known exactly if the masks of both colours are equal.
use Rattle.line_core.proofs.Names.{◌∙◌, sym, eqb-true, eq-eqb}
use Rattle.line_core.proofs.Packing.{unknown_is}
use Rattle.line_core.proofs.overlaps.is_unknown.Goals as goal

pub returns : goal.returns
returns g c =
    let are = c.requires.1.1 in
    let is = unknown_is g.line _ _ _ _ are.len_is are.not_filled_is are.not_blank_is c.symmetric_difference.ensures in
    ((λ t. is.0 (eqb-true _ 0 (sym c.is_empty.ensures ∙ t))), λ e. c.is_empty.ensures ∙ eq-eqb _ 0 (is.1 e))
