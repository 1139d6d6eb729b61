-- `Board::undo_to`: undoing one more entry doesn't change the cells and the trail at `checkpoint`.
use Rattle.solve_core.proofs.Names.{take-take, rules}
use Rattle.solve_core.proofs.BranchLaws.{before_back}
use Rattle.solve_core.proofs.grids.boards.Board.undo_to.Goals as goal

pub loop-self-preserved : goal.loop-self-preserved
loop-self-preserved g c = search (rules, before_back, take-take)
