-- `push_clue`: the first number is appended, and then each other with a space before it.
use Rattle.std.proofs.Common.{◌≡◌, ℕ, ◌-◌, ◌<◌, ◌≤◌, List, ◌∷◌, ◌++◌, length, take, drop, get_or, decimal, append_assoc, arith, rules}
use Rattle.std.proofs.lemmas.List.{take_all, take_rest}
use Rattle.std.specs.List.{flat_map}
use Rattle.puzzle_text.specs.Written.{clue_text}
use Rattle.check_text.proofs.clue_texts.push_clue.Goals as goal

-- after a loop over all numbers but the first, the whole clue is appended
clue_is_written : (numbers before first after : List ℕ) (i : ℕ) → 0 < length numbers
    → first ≡ before ++ decimal (get_or numbers 0 0)
    → after ≡ first ++ flat_map (λ other. 32 ∷ decimal other) (take i (take (length numbers - 1) (drop 1 numbers)))
    → length (take (length numbers - 1) (drop 1 numbers)) ≤ i → after ≡ before ++ clue_text 32 numbers
clue_is_written numbers before first after i some e g all = search (rules, take_all, take_rest, append_assoc)

pub returns-after-loop-number : goal.returns-after-loop-number
returns-after-loop-number c =
    clue_is_written _ c.args.text.now.items _ _ c.loop-number.number-index (omega (arith, c.in-len1-up.len_at_least))
    (rw c.from.ensures at c.in_ok-push_number-in-len1-up.ensures.ok) c.loop-number.invariant c.loop-number-test.false
