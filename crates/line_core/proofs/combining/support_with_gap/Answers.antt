-- `support_with_gap`: the prefix support and the suffix support at the gap.
use Rattle.line_core.proofs.Names.{rules}
use Rattle.line_core.proofs.SupportMasks.{masks_same}
use Rattle.line_core.proofs.CombiningLemmas.{far_are, near_are}
use Rattle.line_core.proofs.combining.support_with_gap.Goals as goal

pub returns : goal.returns
returns g c =
    let p = c.requires.1.1 in
    let near = near_are g.line _ _ _ _ _ p.1.1 c.args.j c.args.index _ _ p.0 p.1.0 c.from.ensures c.index-supports-j.is in
    let far = far_are g.line _ _ _ _ _ p.1.1 c.args.j c.args.index _ _ p.0 p.1.0 c.from-mirrored.ensures c.index-supports-clue.is in
    masks_same _ _ _ c.with.ensures (λ d k. search (rules, near d k, far d k))
