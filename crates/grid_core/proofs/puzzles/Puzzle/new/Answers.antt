-- `Puzzle::new`: a size that is out of range is reported before any other fault.
use Rattle.grid_core.proofs.Names.{arith, common_steps}
use Rattle.grid_core.proofs.puzzles.Puzzle.new.Goals as goal

pub returns-then-not-contains-clause-bad_size : goal.returns-then-not-contains-clause-bad_size
returns-then-not-contains-clause-bad_size c = grind (arith, common_steps)

pub returns-then-not-contains-clause-bad_count : goal.returns-then-not-contains-clause-bad_count
returns-then-not-contains-clause-bad_count c = grind (arith, common_steps)
