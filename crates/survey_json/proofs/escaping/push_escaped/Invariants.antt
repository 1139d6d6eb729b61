-- The loop of `push_escaped`: what is appended, with the rest escaped, is the line escaped.
use Rattle.std.proofs.Common.{◌≡◌, ◌++◌, length}
use Rattle.survey_json.specs.Escaping.{escaped}
use Rattle.survey_json.proofs.escaping.push_escaped.Given as goal

abbrev pub invariant-loop-at : goal.invariant-loop-at
invariant-loop-at l = l.text.items ++ escaped l.rest ≡ l.initial.text.items ++ escaped l.line

abbrev pub decreases-loop-at : goal.decreases-loop-at
decreases-loop-at l = length l.rest
