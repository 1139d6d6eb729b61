-- Invariant of the loop of `Board::undo_to`: the cells and the trail at `checkpoint` are unchanged. The trail gets shorter.
use Rattle.solve_core.proofs.Names.{◌≡◌, length, take, cells_before}
use Rattle.solve_core.proofs.grids.boards.Board.undo_to.Given as goal

abbrev pub invariant-loop-self : goal.invariant-loop-self
invariant-loop-self g l = record {
  width : l.self.width ≡ l.fn.self.width;
  height : l.self.height ≡ l.fn.self.height;
  cells : cells_before l.self.cells l.self.trail l.checkpoint ≡ cells_before l.fn.self.cells l.fn.self.trail l.checkpoint;
  trail : take l.checkpoint l.self.trail ≡ take l.checkpoint l.fn.self.trail;
}

abbrev pub decreases-loop-self : goal.decreases-loop-self
decreases-loop-self g l = length l.self.trail
