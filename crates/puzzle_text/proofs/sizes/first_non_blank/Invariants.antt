-- The loop of `first_non_blank`: all lines so far are blank.
use Rattle.puzzle_text.proofs.Names.{◌≡◌, length, map, first_non_blank, shown_line}
use Rattle.puzzle_text.proofs.sizes.first_non_blank.Given as goal

abbrev pub invariant-loop-rest : goal.invariant-loop-rest
invariant-loop-rest l = first_non_blank (map shown_line l.rest) ≡ first_non_blank (map shown_line l.lines)

abbrev pub decreases-loop-rest : goal.decreases-loop-rest
decreases-loop-rest l = length l.rest
