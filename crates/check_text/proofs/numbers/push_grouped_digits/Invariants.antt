-- The loop of `push_grouped_digits`: the digits before `index` are appended.
use Rattle.std.proofs.Common.{◌≡◌, ◌++◌}
use Rattle.std.specs.List.{flat_map, range_with_len}
use Rattle.check_text.specs.Numbers.{grouped_digit}
use Rattle.check_text.proofs.numbers.push_grouped_digits.Given as goal

abbrev pub invariant-loop-index : goal.invariant-loop-index
invariant-loop-index l =
    l.text.items ≡ l.initial.text.items ++ flat_map (grouped_digit l.digits) (range_with_len 0 l.index)
