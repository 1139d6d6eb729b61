-- `Puzzle::solved_by`: a grid is full exactly if no cell is unknown; a full grid of the puzzle's size solves it if it meets the clues.
use Rattle.std.proofs.Common.{arith}
use Rattle.grid_core.proofs.FirstUnknown.{unknown_or_all}
use Rattle.grid_core.proofs.puzzles.Puzzle.solved_by.Goals as goal

pub returns-then-is_some : goal.returns-then-is_some
returns-then-is_some c = let some = unknown_or_all _ _ _ c.first_unknown.ensures in grind arith

pub returns : goal.returns
returns c = let none = unknown_or_all _ _ _ c.first_unknown.ensures in grind arith
