-- The invariant of the loop of `cells_needed`: the sum is what the runs so far need.
use Rattle.line_core.proofs.Names.{◌≡◌, least_start}
use Rattle.line_core.proofs.overlaps.cells_needed.Given as goal

abbrev pub invariant-loop-number : goal.invariant-loop-number
invariant-loop-number l = l.needed ≡ least_start l.clue l.number-index
