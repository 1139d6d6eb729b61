-- The invariant of the loop of `overlaps`: the greatest start of the next run, and the overlaps of the runs so far.
use Rattle.line_core.proofs.Names.{◌≡◌, ◌+◌, IsMaskOf, least_start, IsOverlapBefore}
use Rattle.line_core.proofs.overlaps.overlaps.Given as goal

abbrev pub invariant-loop-number : goal.invariant-loop-number
invariant-loop-number g l = record {
  start : l.greatest_start ≡ least_start l.clue l.number-index + l.slack;
  found : IsMaskOf (IsOverlapBefore l.number-index l.clue l.slack) (g.W.BitSet.bits l.overlap);
}
