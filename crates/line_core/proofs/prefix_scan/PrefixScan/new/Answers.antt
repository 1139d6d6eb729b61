-- `PrefixScan::new`: the gap before the first run, and the next starts around it.
use Rattle.line_core.proofs.Names.{rules}
use Rattle.line_core.proofs.Composing.{gap_none_is, starts_none_are}
use Rattle.line_core.proofs.prefix_scan.PrefixScan.new.Goals as goal

pub returns : goal.returns
returns g c = λ line fits domain table.
    let gap = gap_none_is line _ _ domain.not_filled_is c.first_gap-gap.ensures in
    let starts = starts_none_are line _ _ _ _ _ domain.some domain.short gap c.shifted_up.ensures c.first.ensures c.union.ensures in
    search rules
