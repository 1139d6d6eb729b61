-- The loop of `push_clue`: the numbers so far are written, each with the separator before it.
use Rattle.puzzle_text.proofs.Names.{◌≡◌, ◌++◌, ◌∷◌, take, decimal, flat_map}
use Rattle.puzzle_text.proofs.writing.push_clue.Given as goal

abbrev pub invariant-loop-number : goal.invariant-loop-number
invariant-loop-number l =
    l.out.items ≡ l.initial.out.items ++ flat_map (λ other. l.separator ∷ decimal other) (take l.number-index l.others)
