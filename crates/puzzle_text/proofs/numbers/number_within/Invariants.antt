-- The loop of `number_within`: all bytes so far are digits, and their value is within the limit.
use Rattle.puzzle_text.proofs.Names.{◌≡◌, ◌≤◌, true, take, list_all, is_ascii_digit, digits_value}
use Rattle.puzzle_text.proofs.numbers.number_within.Given as goal

abbrev pub invariant-loop-digit : goal.invariant-loop-digit
invariant-loop-digit l = record {
  digits : list_all is_ascii_digit (take l.digit-index l.piece) ≡ true;
  value : l.value ≡ digits_value 10 (take l.digit-index l.piece);
  low : l.value ≤ l.limit;
}
