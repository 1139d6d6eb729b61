-- `quick_non`: the puzzle of the keyword lines and the clues collected from the text is that of the text.
use Rattle.puzzle_text.proofs.Names.{arith}
use Rattle.puzzle_text.proofs.FastLines.{non_parsed, some_of_ok}
use Rattle.puzzle_text.proofs.quick.quick_non.Goals as goal

pub returns : goal.returns
returns c =
    rw c.ok.ensures.value (some_of_ok _ _ _ c.fast_puzzle.ensures (λ p parsed.
    non_parsed c.args.bytes.now _ p (omega arith) c.in_ok-fast_sections_of.ensures.keywords
    (parsed _ c.in_ok-fast_sections_of.ensures.sections)))
