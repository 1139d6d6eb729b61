-- The invariant of the loop of `combine_supports`: the lookaheads hold what goes with the first `j` gaps and runs.
use Rattle.line_core.proofs.Names.{◌≡◌, length}
use Rattle.line_core.proofs.CombiningLemmas.{AreCombined}
use Rattle.line_core.proofs.combining.combine_supports.Given as goal

abbrev pub ghost-add_gaps : goal.ghost-add_gaps
ghost-add_gaps g a = g.line

abbrev pub ghost-add_run : goal.ghost-add_run
ghost-add_run g a = g.line

abbrev pub invariant-loop-j : goal.invariant-loop-j
invariant-loop-j g l = record {
  combined : AreCombined g.line l.clue l.j l.j l.lookaheads;
  count : length l.lookaheads ≡ length l.fn.lookaheads;
}
