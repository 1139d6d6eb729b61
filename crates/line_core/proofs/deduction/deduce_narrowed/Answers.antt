-- `deduce_narrowed`: the numbers are within the narrow sets, and so is the deduced line, as long as the line.
use Rattle.line_core.proofs.Names.{arith, rules}
use Rattle.line_core.proofs.LineCells.{clue_within}
use Rattle.line_core.proofs.DeductionLaws.{length-deduced}
use Rattle.line_core.proofs.deduction.deduce_narrowed.Goals as goal

pub deduce_numbers-requires-2 : goal.deduce_numbers-requires-2
deduce_numbers-requires-2 g c = search (rules, clue_within)

pub resized-requires-in-Some : goal.resized-requires-in-Some
resized-requires-in-Some g c =
    let long = rw c.resized.ensures at (length-deduced c.resized.result c.in-Some.deduced c.args.clue.now c.in-Some.ensures) in
    omega (arith, c.len.ensures.fits)
