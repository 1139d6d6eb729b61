-- `PrefixScan::next_run`: the ends of the run follow from the next starts before it, and the gap after it from its ends.
use Rattle.line_core.proofs.Names.{rules}
use Rattle.line_core.proofs.Composing.{ends_are, gap_next_is, starts_next_are}
use Rattle.line_core.proofs.prefix_scan.PrefixScan.next_run.Goals as goal

pub returns-clause-ends : goal.returns-clause-ends
returns-clause-ends g c =
    λ line runs h. ends_are line runs _ c.args.number _ _ _ _ h.short c.requires.0 h.starts_are h.not_blank_is
    (c.fit_starts_in_table-fit_starts.ensures h.not_blank h.fits_are) c.run_ends-ends.ensures

pub returns-clause-scanned : goal.returns-clause-scanned
returns-clause-scanned g c = λ line runs h.
    let ends = returns-clause-ends g c line runs h in
    let gap = gap_next_is line runs _ c.args.number _ _ _ h.short c.requires.0 h.not_filled_is ends c.gap_after-self.ensures in
    let starts = starts_next_are line runs _ c.args.number _ _ gap c.shifted_up-self.ensures in
    search rules
