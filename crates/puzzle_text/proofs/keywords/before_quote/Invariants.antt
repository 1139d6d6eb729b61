-- The loop of `before_quote`: no byte dropped so far is a quote, so `rest` has the same result as all bytes.
use Rattle.puzzle_text.proofs.Names.{◌≡◌, length, before_quote}
use Rattle.puzzle_text.proofs.keywords.before_quote.Given as goal

abbrev pub invariant-loop-rest : goal.invariant-loop-rest
invariant-loop-rest l = before_quote l.rest ≡ before_quote l.bytes

abbrev pub decreases-loop-rest : goal.decreases-loop-rest
decreases-loop-rest l = length l.rest
