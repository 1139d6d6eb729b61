-- `support_with_run`: the cells of the run, the prefix support at the gap before it, and the suffix support at the gap
-- after it.
use Rattle.line_core.proofs.Names.{arith, inl, inr}
use Rattle.line_core.proofs.SupportMasks.{masks_same}
use Rattle.line_core.proofs.CombiningLemmas.{beside_is, up_to_is}
use Rattle.line_core.proofs.combining.support_with_run.Goals as goal

pub returns-then-next-supports : goal.returns-then-next-supports
returns-then-next-supports g c =
    let (jl, (whole, supports)) = c.requires.1.1 in
    let up = up_to_is g.line _ _ _ _ _ supports _ _ supports.lengths jl whole _ _ _ c.prefix.ensures
    c.shifted_up-run.ensures c.run_and_prefix-support.ensures in
    beside_is g.line _ _ _ _ _ supports _ _ supports.lengths jl whole _ _ _ _ c.if-next-supports.true
    c.from-mirrored.ensures c.index-supports-clue.is up (rw (← c.index-supports-clue.is) at c.with.ensures)

pub returns : goal.returns
returns g c =
    let (jl, (whole, supports)) = c.requires.1.1 in
    let up = up_to_is g.line _ _ _ _ _ supports _ _ supports.lengths jl whole _ _ _ c.prefix.ensures
    c.shifted_up-run.ensures c.run_and_prefix-support.ensures in
    masks_same _ _ _ up (λ d k. (
      λ h. inl h,
      λ h. elim h [ inl x ↦ x | inr x ↦ absurd (omega (arith, x.0, c.if-next-supports.false, supports.len_is)) ],
    ))
