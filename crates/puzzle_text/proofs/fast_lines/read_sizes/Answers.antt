-- `read_sizes`: two numbers with a comma or a space between them, and a line ending.
use Rattle.puzzle_text.proofs.Names.{rules}
use Rattle.puzzle_text.proofs.FastLines.{sizes_end}
use Rattle.puzzle_text.proofs.fast_lines.read_sizes.Goals as goal

pub returns : goal.returns
returns c =
    sizes_end _ _ _ _ _ _ _ c.in_ok-first.ensures.number (search rules) c.in_ok-second.ensures.number c.in_ok-after_line_end.ensures.ends
