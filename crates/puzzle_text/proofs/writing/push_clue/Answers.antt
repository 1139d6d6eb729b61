-- `push_clue`: the first number is written, and then each other with the separator before it.
use Rattle.puzzle_text.proofs.Names.{ℕ, ◌++◌, arith, decimal, ◌≡◌, ◌-◌, ◌<◌, ◌≤◌, List, ◌∷◌, length, take, drop, get_or, append_assoc, flat_map, take_all, take_rest, clue_text, rules}
use Rattle.puzzle_text.proofs.writing.push_clue.Goals as goal

-- After a loop over all numbers but the first, the whole clue is written.
clue_is_written : (separator : ℕ) (numbers before first after : List ℕ) (i : ℕ) → 0 < length numbers
    → first ≡ before ++ decimal (get_or numbers 0 0)
    → after ≡ first ++ flat_map (λ other. separator ∷ decimal other) (take i (take (length numbers - 1) (drop 1 numbers)))
    → length (take (length numbers - 1) (drop 1 numbers)) ≤ i → after ≡ before ++ clue_text separator numbers
clue_is_written separator numbers before first after i some e g all = search (rules, take_all, take_rest, append_assoc)

pub returns-after-loop-number : goal.returns-after-loop-number
returns-after-loop-number c =
    clue_is_written _ _ c.args.out.now.items _ _ c.loop-number.number-index (omega (arith, c.in-len1-up.len_at_least))
    (rw c.from.ensures at c.in_ok-push_number-in-len1-up.ensures.ok) c.loop-number.invariant c.loop-number-test.false
