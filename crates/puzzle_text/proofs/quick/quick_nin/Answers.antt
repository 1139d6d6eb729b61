-- `quick_nin`: the puzzle of the size line and the clues is that of the text.
use Rattle.puzzle_text.proofs.Names.{arith, rules, ◌≡◌}
use Rattle.puzzle_text.proofs.FastLines.{nin_parsed, some_of_ok}
use Rattle.puzzle_text.proofs.quick.quick_nin.Goals as goal

pub returns : goal.returns
returns c =
    let parsed = nin_parsed c.args.bytes.now c.in_ok-a.after.now c.in_ok-clues.rest.now c.in_ok-a.a c.in_ok-a.b c.in_ok-clues.clues.items
    (omega arith) c.in_ok-a.ensures c.in_ok-clues.ensures.clues (search rules) c.in_ok-clues.ensures.count in
    rw c.ok.ensures.value (some_of_ok (λ p. p ≡ _) _ _ c.orient.ensures (λ p e. rw e parsed))
