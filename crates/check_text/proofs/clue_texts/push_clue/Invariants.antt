-- The loop of `push_clue`: the numbers so far are appended, each with a space before it.
use Rattle.std.proofs.Common.{◌≡◌, ◌++◌, ◌∷◌, take, decimal}
use Rattle.std.specs.List.{flat_map}
use Rattle.check_text.proofs.clue_texts.push_clue.Given as goal

abbrev pub invariant-loop-number : goal.invariant-loop-number
invariant-loop-number l =
    l.text.items ≡ l.initial.text.items ++ flat_map (λ other. 32 ∷ decimal other) (take l.number-index l.others)
