-- The loop of `push_cells`: the bytes of the cells so far are written.
use Rattle.puzzle_text.proofs.Names.{◌≡◌, ◌++◌, map, take, goal_byte}
use Rattle.puzzle_text.proofs.writing.push_cells.Given as goal

abbrev pub invariant-loop-cell : goal.invariant-loop-cell
invariant-loop-cell l = l.out.items ≡ l.fn.out.items ++ map goal_byte (take l.cell-index l.cells)
