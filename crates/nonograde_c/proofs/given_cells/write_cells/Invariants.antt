-- The loop invariant of `write_cells`: the cells before `index` are written, and those of the bytes from there on are still to come.
use Rattle.std.proofs.Common.{◌≡◌, ◌++◌, length, take, drop, option_map}
use Rattle.puzzle_text.specs.Answers.{each_some}
use Rattle.nonograde_c.specs.GivenCells.{cell_from_byte}
use Rattle.nonograde_c.proofs.given_cells.write_cells.Given as goal

abbrev pub invariant-loop-index : goal.invariant-loop-index
invariant-loop-index l = record {
  cells : option_map (λ rest. take l.index l.grid.cells ++ rest) (each_some cell_from_byte (drop l.index l.bytes))
      ≡ each_some cell_from_byte l.bytes;
  count : length l.bytes ≡ length l.grid.cells;
  width : l.grid.width ≡ l.fn.grid.width;
  height : l.grid.height ≡ l.fn.grid.height;
}
