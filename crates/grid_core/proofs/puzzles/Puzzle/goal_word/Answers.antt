-- `Puzzle::goal_word`: the result `Misses` is right for a goal that does not meet all clues.
use Rattle.std.proofs.Common.{rules}
use Rattle.grid_core.proofs.puzzles.Puzzle.goal_word.Goals as goal

pub returns-else-is_met-clause-meets : goal.returns-else-is_met-clause-meets
returns-else-is_met-clause-meets c = search rules
