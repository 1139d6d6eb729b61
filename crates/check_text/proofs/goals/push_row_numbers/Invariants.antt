-- The loop of `push_row_numbers`: the numbers so far are appended, each with a comma before it.
use Rattle.std.proofs.Common.{◌≡◌, ◌+◌, ◌++◌, codes, take, decimal}
use Rattle.std.specs.List.{flat_map}
use Rattle.check_text.proofs.goals.push_row_numbers.Given as goal

abbrev pub invariant-loop-row : goal.invariant-loop-row
invariant-loop-row l =
    l.text.items ≡ l.initial.text.items ++ flat_map (λ other. codes ", " ++ decimal (other + 1)) (take l.row-index l.others)
