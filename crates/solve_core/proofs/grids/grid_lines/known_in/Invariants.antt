-- Invariant of the loop of `known_in`: of the cells passed, all but the unknown ones counted are known.
use Rattle.solve_core.proofs.Names.{◌≡◌, ◌+◌, ◌-◌, ◌≤◌, length, take, count_by, is_known}
use Rattle.solve_core.proofs.grids.grid_lines.known_in.Given as goal

abbrev pub invariant-loop-place : goal.invariant-loop-place
invariant-loop-place g l = record {
  counted : count_by is_known (take l.from l.line) + l.unknown ≡ l.from;
  within : l.from ≤ length l.line;
}

abbrev pub decreases-loop-place : goal.decreases-loop-place
decreases-loop-place g l = length l.line - l.from
