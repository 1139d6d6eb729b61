-- `clues_of`: before the first line, the result for the lines to come is that for all.
use Rattle.puzzle_text.proofs.Names.{shown_line, each_begins}
use Rattle.puzzle_text.proofs.clue_lines.clues_of.Goals as goal

pub loop-line-init : goal.loop-line-init
loop-line-init c =
    let clues = c.in_ok-clues.ensures in
    record { count = clues.len; capacity = clues.capacity; so_far = rw clues.items (each_begins _ shown_line c.args.lines.now) }
