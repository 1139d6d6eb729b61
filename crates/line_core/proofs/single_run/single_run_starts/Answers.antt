-- `single_run_starts`: the run covers the first and the last cell that are known to be filled, or starts anywhere if there is
-- none.
use Rattle.line_core.proofs.Names.{sym, ◌∙◌, eqb-true}
use Rattle.line_core.proofs.SingleRuns.{starts_anywhere, starts_about}
use Rattle.line_core.proofs.single_run.single_run_starts.Goals as goal

pub returns-then-is_empty : goal.returns-then-is_empty
returns-then-is_empty g c =
    let is = c.requires.1.1.0 in
    starts_anywhere g.line _ _ _ _ _ _ _ is.len_is is.not_filled_is is.not_blank_is c.prefix.ensures c.difference-filled.ensures
    c.fit_starts-starts.ensures (eqb-true _ 0 (sym c.is_empty.ensures ∙ c.if-is_empty.true))

pub returns : goal.returns
returns g c =
    let is = c.requires.1.1.0 in
    let first = c.first_index-greatest in
    let last = c.last_index in
    starts_about g.line _ _ _ _ _ _ _ is.len_is is.not_filled_is is.not_blank_is c.prefix.ensures c.difference-filled.ensures
    c.fit_starts-starts.ensures _ _ _ _ _ _ _ _ c.requires.1.1.1.0
    first.ensures.in_mask first.ensures.least last.ensures.in_mask last.ensures.greatest first.ensures.within
    c.prefix-2.ensures c.intersection.ensures c.full.ensures
    (rw c.saturating_sub-least.ensures at c.shifted_up.ensures) c.intersection-2.ensures
