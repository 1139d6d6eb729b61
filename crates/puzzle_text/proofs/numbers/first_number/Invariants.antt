-- The loop of `first_number`: all bytes so far are digits, and their value is within the limit.
use Rattle.puzzle_text.proofs.Names.{◌≡◌, ◌≤◌, true, take, list_all, is_ascii_digit, digits_value}
use Rattle.puzzle_text.proofs.numbers.first_number.Given as goal

abbrev pub invariant-loop-place : goal.invariant-loop-place
invariant-loop-place l = record {
  digits : list_all is_ascii_digit (take l.place l.text) ≡ true;
  value : l.value ≡ digits_value 10 (take l.place l.text);
  low : l.value ≤ l.limit;
}
