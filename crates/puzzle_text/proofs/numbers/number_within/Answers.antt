-- `number_within`: if the first digits are over the limit, so is the number.
use Rattle.puzzle_text.proofs.Names.{sym, ◌+◌, arith}
use Rattle.puzzle_text.proofs.NumbersLemmas.{next_value, past_limit}
use Rattle.puzzle_text.proofs.numbers.number_within.Goals as goal

pub returns-then-value-from-clause-number : goal.returns-then-value-from-clause-number
returns-then-value-from-clause-number c =
    let more = next_value _ _ c.loop-digit-test.true (sym c.if-not-is_ascii_digit.ensures.value) in
    sym (past_limit c.args.limit c.args.piece.now (c.loop-digit.digit-index + 1) (omega (arith, more)))
