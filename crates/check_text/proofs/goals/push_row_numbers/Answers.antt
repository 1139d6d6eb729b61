-- `push_row_numbers`: the first number is appended, and then each other with a comma before it.
use Rattle.std.proofs.Common.{◌≡◌, ℕ, ◌+◌, ◌-◌, ◌<◌, ◌≤◌, List, ◌++◌, codes, length, take, drop, get_or, decimal, append_assoc, arith, rules}
use Rattle.std.proofs.lemmas.List.{take_all, take_rest}
use Rattle.std.specs.List.{flat_map}
use Rattle.check_text.specs.Goals.{row_numbers}
use Rattle.check_text.proofs.goals.push_row_numbers.Goals as goal

-- after a loop over all rows but the first, all numbers are appended
rows_are_written : (rows before first after : List ℕ) (i : ℕ) → 0 < length rows
    → first ≡ before ++ decimal (get_or rows 0 0 + 1)
    → after ≡ first ++ flat_map (λ other. codes ", " ++ decimal (other + 1)) (take i (take (length rows - 1) (drop 1 rows)))
    → length (take (length rows - 1) (drop 1 rows)) ≤ i → after ≡ before ++ row_numbers rows
rows_are_written rows before first after i some e g all = search (rules, take_all, take_rest, append_assoc)

pub returns-after-loop-row : goal.returns-after-loop-row
returns-after-loop-row c =
    rows_are_written _ c.args.text.now.items _ _ c.loop-row.row-index (omega (arith, c.in-len1-up.len_at_least))
    c.in_ok-push_row_number.ensures c.loop-row.invariant c.loop-row-test.false
