-- `quick_mk`: the puzzle of the size line, the rows, the line `#` and the columns is that of the text.
use Rattle.puzzle_text.proofs.Names.{arith, rules}
use Rattle.puzzle_text.proofs.FastLines.{mk_parsed}
use Rattle.puzzle_text.proofs.quick.quick_mk.Goals as goal

pub returns : goal.returns
returns c =
    rw (rw c.none.ensures at c.puzzle_from_parts.ensures)
    (mk_parsed c.args.bytes.now c.in_ok-height.after.now c.in_ok-rows.middle.now c.in_ok-hash_line.field-0.now
    c.in_ok-columns.rest.now _ _ _
    _ (omega arith) c.in_ok-height.ensures c.in_ok-rows.ensures.clues c.in_ok-hash_line.ensures c.in_ok-columns.ensures.clues (search rules)
    c.in_ok-rows.ensures.count c.in_ok-columns.ensures.count)
