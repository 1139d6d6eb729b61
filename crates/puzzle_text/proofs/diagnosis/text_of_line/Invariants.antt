-- The loop of `text_of_line`: no line so far has the number.
use Rattle.puzzle_text.proofs.Names.{◌≡◌, length, map, shown_line}
use Rattle.puzzle_text.specs.Diagnosis.{text_of_line}
use Rattle.puzzle_text.proofs.diagnosis.text_of_line.Given as goal

abbrev pub invariant-loop-rest : goal.invariant-loop-rest
invariant-loop-rest l = text_of_line l.number (map shown_line l.rest) ≡ text_of_line l.number (map shown_line l.lines)

abbrev pub decreases-loop-rest : goal.decreases-loop-rest
decreases-loop-rest l = length l.rest
