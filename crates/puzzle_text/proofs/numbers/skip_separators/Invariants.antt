-- The loop of `skip_separators`: all bytes dropped so far are separators, so that the pieces are unchanged.
use Rattle.puzzle_text.proofs.Names.{◌≡◌, ◌≤◌, length, pieces}
use Rattle.puzzle_text.proofs.numbers.skip_separators.Given as goal

abbrev pub invariant-loop-text : goal.invariant-loop-text
invariant-loop-text l = (pieces l.text ≡ pieces l.fn.text) × (length l.text ≤ length l.fn.text)

abbrev pub decreases-loop-text : goal.decreases-loop-text
decreases-loop-text l = length l.text
