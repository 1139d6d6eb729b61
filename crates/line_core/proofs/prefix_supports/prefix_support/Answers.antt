-- `prefix_support`: the cells that go with the run before the gap are added.
use Rattle.line_core.proofs.Names.{rules, arith, ◌≡◌, ◌+◌, ◌-◌, true_has, ◌∙◌, sym}
use Rattle.line_core.proofs.SupportMasks.{masks_are, more_same}
use Rattle.line_core.proofs.prefix_supports.prefix_support.Goals as goal

pub returns : goal.returns
returns g c =
    let ended = true_has _ _ (sym c.contains.ensures ∙ c.if-not-contains.false) in
    let to : c.args.index - c.args.run.now.number + c.args.run.now.number ≡ c.args.index = omega (arith, c.requires.ended ended) in
    let run = rw to at c.mirrored_cells-cells.ensures in
    more_same _ _ _ _ c.with.ensures (λ d k. search (rules, masks_are _ _ c.run_and_prefix.ensures d k, run.to k, run.from k))
