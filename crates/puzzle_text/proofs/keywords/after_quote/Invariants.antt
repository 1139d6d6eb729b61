-- The loop of `after_quote`: no byte so far is a quote, so `rest` has the same result as all bytes.
use Rattle.puzzle_text.proofs.Names.{◌≡◌, length, after_quote}
use Rattle.puzzle_text.proofs.keywords.after_quote.Given as goal

abbrev pub invariant-loop-rest : goal.invariant-loop-rest
invariant-loop-rest l = after_quote l.rest ≡ after_quote l.bytes

abbrev pub decreases-loop-rest : goal.decreases-loop-rest
decreases-loop-rest l = length l.rest
