-- `first_number`: a piece ends at a separator or with the line; a value over the limit is refused.
use Rattle.puzzle_text.proofs.Names.{◌+◌, arith, sym, drop_all, take_rest, rules}
use Rattle.puzzle_text.proofs.NumbersLemmas.{next_digits, next_value, number_ends, number_past}
use Rattle.puzzle_text.proofs.numbers.first_number.Goals as goal

pub returns-then-is_separator-clause-some : goal.returns-then-is_separator-clause-some
returns-then-is_separator-clause-some c =
    rw (take_rest c.args.text.now (c.loop-place.place + 1), c.loop-place.invariant.value)
    (number_ends _ _ c.requires.some c.requires.first _ (omega arith) c.loop-place.invariant.digits (omega arith) (search rules))

pub returns-then-value-from-clause-none : goal.returns-then-value-from-clause-none
returns-then-value-from-clause-none c =
    let digit = sym c.if-not-is_ascii_digit.ensures.value in
    let digits = next_digits _ _ c.loop-place-test.true c.loop-place.invariant.digits digit in
    number_past _ _ c.requires.some c.requires.first _ (omega arith) digits (omega (arith, next_value _ _ c.loop-place-test.true digit))

pub returns-clause-some : goal.returns-clause-some
returns-clause-some c =
    let ends =
    number_ends c.args.limit c.args.text.now c.requires.some c.requires.first c.loop-place.place (omega arith) c.loop-place.invariant.digits
    (omega arith) (λ h. absurd (omega arith)) in
    rw c.loop-place.invariant.value (rw (drop_all (c.loop-place.place + 1) c.args.text.now (omega arith)) at ends)
